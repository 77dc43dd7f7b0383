-- The types that a type may change to, and those that may change to it, as the graph finds them. It serves the code alone.
use Rattle.std.specs.Prelude.{◌≡◌, ◌≤◌, ℕ, Bool, true, false, not, ◌&&◌, ◌||◌, ◌==◌, ◌↔◌, Option, Some, None, List, option_and_then, slice_get}
use Rattle.std.specs.List.{All, Contains, filter, list_any, range_with_len}
use Rattle.pol_bitmap.specs.Nodes.{has_bit}
use Rattle.pol_file.specs.declared.Parts.{Parts}
use Rattle.pol_read.specs.declared.RulePart.{RulePart}
use Rattle.pol_read.specs.declared.RulePart.TheVariants.{Default}
use Rattle.pol_read.specs.StoredRules.{stored_rules}
use Rattle.counted_rules.specs.CountedRules.{Counted}
use Rattle.rules_between.specs.ChosenRules.{ends_at}
use Rattle.pol_expand.specs.PlainTypes.{are_two_types, is_type_value}
use Rattle.rule_grants.specs.Grants.{grants}
use Rattle.rule_grants.specs.Names.{file, entrypoint}
use Rattle.dom_trans.specs.DefaultRules.{has_default}
use Rattle.dom_trans.specs.Transitions.{is_default, is_entry, is_standard, is_transition}
use Rattle.dom_trans.specs.DomainEdges.{Domains}

-- there is an entry from the one type to the other
abbrev pub has_entry : Counted → ℕ → ℕ → Bool
has_entry rules a b = list_any (is_entry rules a b) (range_with_len 1 rules.policy.symbols.types.nprim)

-- ---- from a type

-- Of the types other than one, those among some types are the ones that have an entry from it.
pub record AreEntered (rules : Counted) (a : ℕ) (types : List ℕ) : Type 0 where
  pub each : (b : ℕ) → are_two_types rules.policy a b ≡ true → Contains types b ↔ (has_entry rules a b ≡ true)

-- Of the types other than one, those among some types are the ones that it has a transition to.
pub record AreTargets (rules : Counted) (a : ℕ) (types : List ℕ) : Type 0 where
  pub each : (b : ℕ) → are_two_types rules.policy a b ≡ true → Contains types b ↔ (is_transition rules a b ≡ true)

-- values of types and attributes
abbrev pub AreTypeValues : Parts → List ℕ → Type 0
AreTypeValues policy values = All (λ value. (1 ≤ value) × (value ≤ policy.symbols.types.nprim)) values

-- the default that a part sets, if it sets one
abbrev pub part_sets : RulePart → Option ℕ
part_sets (Default value) = Some value
part_sets part = None

-- the default that the rule of a number sets, if it sets one
abbrev pub default_set_by : Parts → ℕ → Option ℕ
default_set_by policy number = option_and_then (λ rule. part_sets rule.part) (slice_get (stored_rules policy) number)

-- each rule sets the default that a rule sets, or none where that sets none
abbrev pub HaveDefaultOf : Parts → ℕ → List ℕ → Type 0
HaveDefaultOf policy first numbers = All (λ number. default_set_by policy number ≡ default_set_by policy first) numbers

-- a process that starts by a rule, from one of some types, starts from an entry point of a domain
abbrev pub starts_at_point : Counted → List ℕ → ℕ → ℕ → Bool
starts_at_point rules types b number = list_any (λ entry. ends_at rules.policy entry number && grants rules b entry file entrypoint) types

-- so it does, and the domain is the default of the rule
abbrev pub enters_by : Counted → List ℕ → ℕ → ℕ → Bool
enters_by rules types b number = is_type_value rules.policy b && has_default rules.policy b number && starts_at_point rules types b number

-- a value is the one that was found
abbrev pub is_found : Option ℕ → ℕ → Bool
is_found None value = false
is_found (Some found) value = found == value

-- ---- to a type

-- the types from which a process that the one type starts has the other as its default domain, rising
unfoldable pub starts_to : Counted → ℕ → ℕ → List ℕ
starts_to rules a b = filter (is_default rules a b) (range_with_len 1 rules.policy.symbols.types.nprim)

-- Of the types other than one, those among some types are the ones that have a transition to it by executing a file.
pub record AreEntering (rules : Counted) (b : ℕ) (types : List ℕ) : Type 0 where
  pub each : (a : ℕ) → are_two_types rules.policy a b ≡ true → Contains types a ↔ (is_standard rules a b ≡ true)

-- Of the types other than one, those among some types are the ones that have a transition to it.
pub record AreSources (rules : Counted) (b : ℕ) (types : List ℕ) : Type 0 where
  pub each : (a : ℕ) → are_two_types rules.policy a b ≡ true → Contains types a ↔ (is_transition rules a b ≡ true)

-- ---- steps

-- two different types, none of them excluded
abbrev pub is_open : Domains → ℕ → ℕ → Bool
is_open domains a b = are_two_types domains.rules.policy a b && not (has_bit domains.excluded a || has_bit domains.excluded b)

-- of some types, those between which and a type a step may be
pub record AreOpen (domains : Domains) (a : ℕ) (types found : List ℕ) : Type 0 where
  pub each : (b : ℕ) → Contains found b ↔ (Contains types b × (is_open domains a b ≡ true))
