-- The ends of chosen rules, by the places of the rules in their list. It serves the code alone.
use Rattle.std.specs.Prelude.{◌≡◌, ℕ, ◌<◌, ◌==◌, ◌&&◌, ◌||◌, Bool, true, List, length, map, not, slice_index, if◌then◌else◌}
use Rattle.std.specs.List.{All, filter, flat_map, list_any}
use Rattle.pol_file.specs.declared.Parts.{Parts}
use Rattle.pol_read.specs.StoredRules.{StoredRule}
use Rattle.value_groups.specs.Among.{is_among}
use Rattle.value_groups.specs.Inner.Grouping.{AreGroupsOf, group_of}
use Rattle.pol_expand.specs.JoinedTypes.{any_joins, holds_type, rule_passes}
use Rattle.pol_expand.specs.Inner.StoredEnds.{IsEnd}
use Rattle.rules_between.specs.ChosenRules.{ends_at}
use Rattle.pol_expand.specs.PlainTypes.{is_type_value}

-- a rule has these ends
abbrev pub has_ends : ℕ → ℕ → StoredRule → Bool
has_ends source target rule = (rule.source == source) && (rule.target == target)

-- the rule of each place has the source and the target of that place, and these are types or attributes
pub record AreEndsOf (policy : Parts) (rules sources targets : List ℕ) : Type 0 where
  pub sources_long : length sources ≡ length rules
  pub targets_long : length targets ≡ length rules
  pub each : (place : ℕ) → place < length rules → rule_passes policy (has_ends (slice_index sources place) (slice_index targets place)) (slice_index rules place) ≡ true
  pub sources_are : All (IsEnd policy) sources
  pub targets_are : All (IsEnd policy) targets

-- there are such ends of the rules
abbrev pub HaveEnds : Parts → List ℕ → Type 0
HaveEnds policy rules = (sources : List ℕ) × (targets : List ℕ) × AreEndsOf policy rules sources targets

-- the places whose other end is among some values
abbrev pub places_to : List ℕ → List ℕ → List ℕ → List ℕ
places_to others ends places = filter (λ place. is_among ends (slice_index others place)) places

-- the rules of these places
abbrev pub rules_at : List ℕ → List ℕ → List ℕ
rules_at rules places = map (slice_index rules) places

-- the rules that have one end among some values and the other among others, group by group
abbrev pub rules_found : List ℕ → List ℕ → (ℕ → List ℕ) → List ℕ → List ℕ → List ℕ
rules_found rules others groups from to = flat_map (λ end. rules_at rules (places_to others to (groups end))) from

-- the rules that have one end among some values, group by group
abbrev pub rules_under : List ℕ → (ℕ → List ℕ) → List ℕ → List ℕ
rules_under rules groups from = flat_map (λ end. rules_at rules (groups end)) from

-- whether there is a rule that has one end among some values and the other among others
abbrev pub any_found : List ℕ → (ℕ → List ℕ) → List ℕ → List ℕ → Bool
any_found others groups from to = list_any (λ end. list_any (λ place. is_among to (slice_index others place)) (groups end)) from

-- whether a value is the other end of a rule that has one end among some values
abbrev pub is_other_end : List ℕ → (ℕ → List ℕ) → List ℕ → ℕ → Bool
is_other_end others groups from value = list_any (λ end. list_any (λ place. slice_index others place == value) (groups end)) from

-- ---- the targets of some rules

-- These are types and attributes, and they expand to the types that the targets of some rules expand to.
pub record AreTargetsOf (policy : Parts) (numbers ends : List ℕ) : Type 0 where
  pub are : All (IsEnd policy) ends
  pub each : (type : ℕ) → list_any (λ end. holds_type policy end type) ends ≡ list_any (ends_at policy type) numbers

-- ---- what rules and others join to one and the same target

-- a rule has a value as its target, and its source expands to a type
abbrev pub stands_at : Parts → ℕ → ℕ → ℕ → Bool
stands_at policy end source number = rule_passes policy (λ rule. (rule.target == end) && holds_type policy rule.source source) number

-- one of the rules does
abbrev pub any_at : Parts → List ℕ → ℕ → ℕ → Bool
any_at policy rules end source = list_any (stands_at policy end source) rules

-- The rules join a type to one of those of some targets that a value expands to. Where the value is a type, those count that have it as
-- their target themselves.
abbrev pub joins_through : Parts → List ℕ → List ℕ → ℕ → ℕ → Bool
joins_through policy rules targets end source =
    if is_type_value policy end then any_at policy rules end source else list_any (λ target. holds_type policy end target && any_joins policy rules source target) targets

-- one of the rules has the value as its target, and others join its source to one of those
abbrev pub shares_through : Parts → List ℕ → List ℕ → List ℕ → ℕ → ℕ → Bool
shares_through policy rules others targets end source = any_at policy rules end source && joins_through policy others targets end source

-- likewise, whichever of them have the value
abbrev pub shares_at : Parts → List ℕ → List ℕ → List ℕ → ℕ → ℕ → Bool
shares_at policy rules others targets end source =
    shares_through policy rules others targets end source || (not (is_type_value policy end) && shares_through policy others rules targets end source)

-- ---- the whole table

pub record IsTableOf (policy : Parts) (rules sources targets : List ℕ) (by_source by_target : List (List ℕ)) : Type 0 where
  pub ends : AreEndsOf policy rules sources targets
  pub sources_grouped : AreGroupsOf policy.symbols.types.nprim sources by_source
  pub targets_grouped : AreGroupsOf policy.symbols.types.nprim targets by_target
