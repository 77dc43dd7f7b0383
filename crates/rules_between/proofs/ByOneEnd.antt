-- Rules by their source alone, and what their targets expand to.
use Rattle.std.proofs.Common.{◌≡◌, ℕ, ◌+◌, ◌<◌, ◌≤◌, Bool, true, false, List, [], ◌∷◌, ◌++◌, Option, Some, None, length, map, get_or, slice_get, take, refl, sym, ap, subst, ◌∙◌, inl, inr, arith}
use Rattle.std.specs.Prelude.{◌==◌, ◌&&◌, ◌||◌, ◌↔◌, option_map, slice_index}
use Rattle.std.specs.List.{All, Contains, filter, flat_map, list_any, range_with_len}
use Rattle.std.specs.List.Sorted.{IsPermutation}
use Rattle.std.proofs.lemmas.Bool.{false≢true, cases_Bool, eqb-true, and_parts, cond-true, cond-false}
use Rattle.std.proofs.lemmas.List.{get_or_default}
use Rattle.std.proofs.lemmas.List.Folds.{list_any-append}
use Rattle.std.proofs.lemmas.List.Elements.{All-get_or, All-nil, All-push, All-weaker}
use Rattle.std.proofs.lemmas.List.Sorted.{Contains-permutation, IsPermutation-map, IsPermutation-sym}
use Rattle.pol_bitmap.proofs.Elements.{kept, keeps, range_holds}
use Rattle.pol_file.specs.declared.Parts.{Parts}
use Rattle.pol_read.specs.declared.RuleEnds.{RuleEnds}
use Rattle.pol_read.specs.StoredRules.{StoredRule, ends_of, stored_rules}
use Rattle.value_groups.specs.Among.{is_among}
use Rattle.value_groups.specs.Inner.Marking.{AreApart, with_value}
use Rattle.value_groups.specs.Inner.Grouping.{group_of, places_of}
use Rattle.rules_between.specs.ChosenRules.{AreRulesFrom, begins_at, ends_at, targets_of_rules}
use Rattle.pol_expand.specs.JoinedTypes.{holds_type, is_rule_from_to, joins, passes}
use Rattle.rules_between.specs.Inner.RuleTables.{AreEndsOf, AreTargetsOf, IsTableOf, has_ends, rules_at, rules_under}
use Rattle.pol_expand.specs.Inner.StoredEnds.{IsEnd}
use Rattle.value_groups.proofs.Anys.{any_from, any_more, among_contains, filter_agree, or_false}
use Rattle.rules_between.proofs.Found.{AreHolders, AreJoined, by_sources, grouped, key_held}
use Rattle.value_groups.proofs.Filters.{by_places, filter_map_is, flat_map_agree, flat_map_of_maps}

-- a rule joins two types where its source expands to the one and its target to the other
pub joins_by_ends : (policy : Parts) (source target number : ℕ) → joins policy source target number ≡ (begins_at policy source number && ends_at policy target number)
unfolding joins begins_at ends_at
joins_by_ends policy source target number = go (slice_get (stored_rules policy) number)
  where
    go : (o : Option StoredRule) → passes (is_rule_from_to policy source target) o ≡ (passes (λ (rule : StoredRule). holds_type policy rule.source source) o && passes (λ (rule : StoredRule). holds_type policy rule.target target) o)
    go None = refl
    go (Some rule) = refl

-- ---- the rules of some ends

filter_ever : (xs : List ℕ) → filter (λ x. true) xs ≡ xs
filter_ever [] = refl
filter_ever (x ∷ xs) = ap (λ (ys : List ℕ). x ∷ ys) (filter_ever xs)

and_ever : (b : Bool) → (b && true) ≡ b
and_ever true = refl
and_ever false = refl

-- the source of the rule of a place
begins_at_place : (policy : Parts) (rules sources targets : List ℕ) (source place : ℕ) → AreEndsOf policy rules sources targets → place < length rules → begins_at policy source (slice_index rules place) ≡ holds_type policy (slice_index sources place) source
unfolding begins_at
begins_at_place policy rules sources targets source place are lt = go (slice_get (stored_rules policy) (slice_index rules place)) (are.each place lt)
  where
    go : (o : Option StoredRule) → passes (has_ends (slice_index sources place) (slice_index targets place)) o ≡ true → passes (λ (rule : StoredRule). holds_type policy rule.source source) o ≡ holds_type policy (slice_index sources place) source
    go None e = absurd (false≢true e)
    go (Some rule) e = ap (λ (x : ℕ). holds_type policy x source) (eqb-true rule.source (slice_index sources place) (and_parts (rule.source == slice_index sources place) (rule.target == slice_index targets place) e).0)

pub rules_from_are : (policy : Parts) (rules sources targets : List ℕ) (by_source by_target : List (List ℕ)) (source : ℕ) (from found : List ℕ) → IsTableOf policy rules sources targets by_source by_target → AreApart from
    → AreHolders policy by_source (λ value. holds_type policy value source) from → found ≡ rules_under rules (group_of by_source) from → AreRulesFrom policy rules source found
rules_from_are policy rules sources targets by_source by_target source from found table apart holders is =
    subst (λ (xs : List ℕ). IsPermutation xs (filter (begins_at policy source) rules)) (sym (is ∙ one))
    (subst (λ (xs : List ℕ). IsPermutation (map r (flat_map (λ end. filter ever (places_of sources end)) from)) xs) (ap (map r) agree ∙ all)
    (IsPermutation-map r (flat_map (λ end. filter ever (places_of sources end)) from) (filter (λ place. is_among from (slice_index sources place) && ever place) range) (grouped sources ever from apart)))
  where
    r : ℕ → ℕ
    r = slice_index rules

    ever : ℕ → Bool
    ever place = true

    range : List ℕ
    range = range_with_len 0 (length sources)

    held : ℕ → Bool
    held value = holds_type policy value source

    joined : AreJoined policy rules sources targets by_source by_target (joins policy source 0) held 0
    joined = by_sources policy rules sources targets by_source by_target source 0 table

    one : rules_under rules (group_of by_source) from ≡ map r (flat_map (λ end. filter ever (places_of sources end)) from)
    one =
        flat_map_agree (λ end. rules_at rules (group_of by_source end)) (λ end. map r (filter ever (places_of sources end))) from
        (All-weaker (λ value. value ≤ policy.symbols.types.nprim) (λ end. rules_at rules (group_of by_source end) ≡ map r (filter ever (places_of sources end))) (λ end le. ap (map r) (table.sources_grouped.each end le ∙ sym (filter_ever (places_of sources end)))) from holders.within)
        ∙ flat_map_of_maps r (λ end. filter ever (places_of sources end)) from

    agree : filter (λ place. is_among from (slice_index sources place) && ever place) range ≡ filter (λ place. begins_at policy source (r place)) range
    agree = filter_agree (λ place. is_among from (slice_index sources place) && ever place) (λ place. begins_at policy source (r place)) range
        (All-weaker (λ b. (0 ≤ b) × (b < 0 + length sources)) (λ place. (is_among from (slice_index sources place) && ever place) ≡ begins_at policy source (r place))
        (λ place w.
        let lt : place < length rules = omega (arith, w.1, table.ends.sources_long) in
        and_ever (is_among from (slice_index sources place)) ∙ key_held policy rules sources targets by_source by_target (joins policy source 0) held 0 joined from holders place lt ∙ sym (begins_at_place policy rules sources targets source place table.ends lt))
        range (range_holds 0 (length sources)))

    all : map r (filter (λ place. begins_at policy source (r place)) range) ≡ filter (begins_at policy source) rules
    all = sym (filter_map_is r (begins_at policy source) range) ∙ ap (filter (begins_at policy source)) (ap (λ (n : ℕ). map r (range_with_len 0 n)) table.ends.sources_long ∙ sym (by_places rules))

-- which rules they are
pub from_each : (policy : Parts) (rules : List ℕ) (source : ℕ) (found : List ℕ) (number : ℕ) → AreRulesFrom policy rules source found → Contains found number ↔ (Contains rules number × (begins_at policy source number ≡ true))
from_each policy rules source found number same = (
  λ there. kept (begins_at policy source) rules number (Contains-permutation found (filter (begins_at policy source) rules) number same there),
  λ h. Contains-permutation (filter (begins_at policy source) rules) found number (IsPermutation-sym found (filter (begins_at policy source) rules) same) (keeps (begins_at policy source) rules number h.0 h.1),
)

-- ---- the targets of some rules

-- the target of one of the rules is an end, and what it expands to is what the rule ends at
pub target_of : (policy : Parts) (rules sources targets : List ℕ) (number : ℕ) (ends : RuleEnds) → AreEndsOf policy rules sources targets → Contains rules number → option_map ends_of (slice_get (stored_rules policy) number) ≡ Some ends
    → IsEnd policy ends.target × ((type : ℕ) → ends_at policy type number ≡ holds_type policy ends.target type)
unfolding ends_at
target_of policy rules sources targets number ends are there is = go (slice_get (stored_rules policy) number) is (subst (λ (n : ℕ). passes (has_ends (slice_index sources place) (slice_index targets place)) (slice_get (stored_rules policy) n) ≡ true) same (are.each place lt))
  where
    place : ℕ
    place = there.0

    lt : place < length rules
    lt = there.1

    same : slice_index rules place ≡ number
    same = get_or_default rules place 0 number lt ∙ there.2

    go : (o : Option StoredRule) → option_map ends_of o ≡ Some ends → passes (has_ends (slice_index sources place) (slice_index targets place)) o ≡ true
        → IsEnd policy ends.target × ((type : ℕ) → passes (λ (rule : StoredRule). holds_type policy rule.target type) o ≡ holds_type policy ends.target type)
    go None e p = absurd (false≢true p)
    go (Some rule) e p =
        let given : rule.target ≡ ends.target = cc e in
        let kept : rule.target ≡ slice_index targets place = eqb-true rule.target (slice_index targets place) (and_parts (rule.source == slice_index sources place) (rule.target == slice_index targets place) p).1 in
        (subst (IsEnd policy) (sym kept ∙ given) (All-get_or (IsEnd policy) targets place 0 (omega (arith, lt, are.targets_long)) are.targets_are), λ type. ap (λ (x : ℕ). holds_type policy x type) given)

known : (p : ℕ → Bool) (xs : List ℕ) (x : ℕ) → is_among xs x ≡ true → list_any p xs ≡ (list_any p xs || p x)
known p xs x t = go (p x) refl
  where
    go : (b : Bool) → p x ≡ b → list_any p xs ≡ (list_any p xs || b)
    go true e = let any = any_from p xs x (among_contains xs x t) e in any ∙ sym (ap (λ (b : Bool). b || true) any)
    go false e = sym (or_false (list_any p xs))

any_with : (p : ℕ → Bool) (xs : List ℕ) (x : ℕ) → list_any p (with_value xs x) ≡ (list_any p xs || p x)
any_with p xs x = elim (cases_Bool (is_among xs x)) [
  | inl t ↦ ap (list_any p) (cond-true (is_among xs x) xs (xs ++ x ∷ []) t) ∙ known p xs x t
  | inr f ↦ ap (list_any p) (cond-false (is_among xs x) xs (xs ++ x ∷ []) f) ∙ list_any-append p xs (x ∷ []) ∙ ap (λ (b : Bool). list_any p xs || b) (or_false (p x))
]

all_with : (P : ℕ → Type 0) (xs : List ℕ) (x : ℕ) → All P xs → P x → All P (with_value xs x)
all_with P xs x all one = elim (cases_Bool (is_among xs x)) [
  | inl t ↦ subst (All P) (sym (cond-true (is_among xs x) xs (xs ++ x ∷ []) t)) all
  | inr f ↦ subst (All P) (sym (cond-false (is_among xs x) xs (xs ++ x ∷ []) f)) (All-push P xs x all one)
]

pub targets_none : (policy : Parts) → AreTargetsOf policy [] []
targets_none policy = record { are = All-nil (IsEnd policy); each = λ type. refl }

-- one rule more
pub targets_more : (policy : Parts) (numbers : List ℕ) (i target : ℕ) (old new : List ℕ) → i < length numbers → AreTargetsOf policy (take i numbers) old → IsEnd policy target → ((type : ℕ) → ends_at policy type (get_or numbers i 0) ≡ holds_type policy target type)
    → new ≡ with_value old target → AreTargetsOf policy (take (i + 1) numbers) new
targets_more policy numbers i target old new lt are is says added = rw added (record {
  are = all_with (IsEnd policy) old target are.are is;
  each = λ type.
      any_with (λ end. holds_type policy end type) old target
      ∙ ap (λ (b : Bool). b || holds_type policy target type) (are.each type)
      ∙ ap (λ (b : Bool). list_any (ends_at policy type) (take i numbers) || b) (sym (says type))
      ∙ sym (any_more (ends_at policy type) numbers i 0 lt);
})

pub expanded : (policy : Parts) (numbers ends : List ℕ) → AreTargetsOf policy numbers ends → filter (λ type. list_any (λ end. holds_type policy end type) ends) (range_with_len 1 policy.symbols.types.nprim) ≡ targets_of_rules policy numbers
unfolding targets_of_rules
expanded policy numbers ends are =
    filter_agree (λ type. list_any (λ end. holds_type policy end type) ends) (λ type. list_any (ends_at policy type) numbers) (range_with_len 1 policy.symbols.types.nprim) (λ k d lt. are.each (get_or (range_with_len 1 policy.symbols.types.nprim) k d))
