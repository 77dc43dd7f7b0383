-- What rules and others join to one and the same target, by their stored targets.
use Rattle.std.proofs.Common.{◌≡◌, ℕ, ◌+◌, ◌<◌, ◌≤◌, Bool, true, false, List, [], ◌∷◌, Option, Some, None, length, get_or, slice_get, refl, sym, ap, subst, ◌∙◌, inl, inr, arith}
use Rattle.std.specs.Prelude.{◌==◌, ◌&&◌, ◌||◌, ◌↔◌, is_some, not, slice_index}
use Rattle.std.specs.List.{All, Contains, filter, list_any, range_with_len}
use Rattle.std.proofs.lemmas.Bool.{false≢true, cases_Bool, or_cases, or_left, or_right, eq-eqb, eqb-true, and_parts, and_from, cond-true, cond-false}
use Rattle.std.proofs.lemmas.List.{get_or_default}
use Rattle.std.proofs.lemmas.List.Elements.{All-cons, All-contains, All-contains_itself, All-get_or, All-nil, All-weaker}
use Rattle.pol_bitmap.specs.declared.Node.{Node}
use Rattle.pol_bitmap.specs.Sets.{IsCommon}
use Rattle.pol_bitmap.proofs.Elements.{kept, keeps, contains_nothing, contains_range, range_holds}
use Rattle.pol_datums.specs.declared.Flavour.{Flavour}
use Rattle.pol_datums.specs.declared.Flavour.TheVariants.{Plain, Attribute}
use Rattle.pol_symbols.specs.PolicySymbols.{flavour_in}
use Rattle.pol_expand.specs.Expansion.{Expansions, IsTouching}
use Rattle.pol_expand.specs.Flavours.{is_flavour}
use Rattle.pol_expand.specs.PolicyMap.{IsPolicyMap, expand, has_flavour, values_of_flavour}
use Rattle.pol_expand.proofs.Values.{same_tests}
use Rattle.pol_file.specs.declared.Parts.{Parts}
use Rattle.pol_read.specs.StoredRules.{StoredRule, stored_rules}
use Rattle.value_groups.specs.Among.{is_among}
use Rattle.value_groups.specs.Inner.Grouping.{group_of}
use Rattle.pol_expand.specs.JoinedTypes.{any_joins, holds_type, is_rule_from_to, joins, passes}
use Rattle.rules_between.specs.ChosenRules.{common_sources, sources_to_any}
use Rattle.pol_expand.specs.PlainTypes.{is_type_value}
use Rattle.rules_between.specs.Inner.RuleTables.{AreEndsOf, IsTableOf, any_at, has_ends, is_other_end, joins_through, shares_at, shares_through, stands_at}
use Rattle.pol_expand.specs.Inner.StoredEnds.{IsEnd, holds_any}
use Rattle.value_groups.proofs.Anys.{any_from, any_gives, among_contains, contains_among, filter_agree, or_false}
use Rattle.rules_between.proofs.Found.{AreHolders, AreJoined, others_hold}
use Rattle.value_groups.proofs.Filters.{filter_never}
use Rattle.pol_expand.proofs.Holders.{expands_within, held_alone, held_within}

-- ---- a rule and its stored target

-- a rule that joins a type to another has a target that expands to the other
pub record StoredTarget (policy : Parts) (rules : List ℕ) (source target : ℕ) : Type 0 where
  pub end : ℕ
  pub is : IsEnd policy end
  pub at : any_at policy rules end source ≡ true
  pub holds : holds_type policy end target ≡ true

pub stored_target : (policy : Parts) (rules sources targets : List ℕ) (source target : ℕ) → AreEndsOf policy rules sources targets → any_joins policy rules source target ≡ true → StoredTarget policy rules source target
unfolding joins
stored_target policy rules sources targets source target are e = record {
  end = t;
  is = All-get_or (IsEnd policy) targets place 0 (omega (arith, lt, are.targets_long)) are.targets_are;
  at = any_from (stands_at policy t source) rules f.0 f.1 parts.0;
  holds = parts.1;
}
  where
    f : (number : ℕ) × Contains rules number × (joins policy source target number ≡ true)
    f = any_gives (joins policy source target) rules e

    place : ℕ
    place = f.1.0

    lt : place < length rules
    lt = f.1.1

    t : ℕ
    t = slice_index targets place

    same : slice_index rules place ≡ f.0
    same = get_or_default rules place 0 f.0 lt ∙ f.1.2

    go : (o : Option StoredRule) → passes (is_rule_from_to policy source target) o ≡ true → passes (has_ends (slice_index sources place) t) o ≡ true
        → (passes (λ (rule : StoredRule). (rule.target == t) && holds_type policy rule.source source) o ≡ true) × (holds_type policy t target ≡ true)
    go None j h = absurd (false≢true j)
    go (Some rule) j h =
        let both = and_parts (holds_type policy rule.source source) (holds_type policy rule.target target) j in
        let is = (and_parts (rule.source == slice_index sources place) (rule.target == t) h).1 in
        (and_from (rule.target == t) (holds_type policy rule.source source) is both.0, subst (λ (x : ℕ). holds_type policy x target ≡ true) (eqb-true rule.target t is) both.1)

    parts : (stands_at policy t source f.0 ≡ true) × (holds_type policy t target ≡ true)
    parts = go (slice_get (stored_rules policy) f.0) f.2 (subst (λ (n : ℕ). passes (has_ends (slice_index sources place) t) (slice_get (stored_rules policy) n) ≡ true) same (are.each place lt))

-- and a rule joins its source to what its target expands to
at_joins : (policy : Parts) (rules : List ℕ) (end source target : ℕ) → any_at policy rules end source ≡ true → holds_type policy end target ≡ true → any_joins policy rules source target ≡ true
unfolding joins
at_joins policy rules end source target e holds =
    let f = any_gives (stands_at policy end source) rules e in
    any_from (joins policy source target) rules f.0 f.1 (go (slice_get (stored_rules policy) f.0) f.2)
  where
    go : (o : Option StoredRule) → passes (λ (rule : StoredRule). (rule.target == end) && holds_type policy rule.source source) o ≡ true → passes (is_rule_from_to policy source target) o ≡ true
    go None s = absurd (false≢true s)
    go (Some rule) s =
        let both = and_parts (rule.target == end) (holds_type policy rule.source source) s in
        and_from (holds_type policy rule.source source) (holds_type policy rule.target target) both.1 (subst (λ (x : ℕ). holds_type policy x target ≡ true) (sym (eqb-true rule.target end both.0)) holds)

-- the source of a rule expands to types of the policy
at_within : (policy : Parts) (rules sources targets : List ℕ) (end source : ℕ) → AreEndsOf policy rules sources targets → any_at policy rules end source ≡ true → (1 ≤ source) × (source < 1 + policy.symbols.types.nprim)
unfolding holds_type
at_within policy rules sources targets end source are e =
    All-contains (λ type. (1 ≤ type) × (type < 1 + policy.symbols.types.nprim)) (expand policy s) source (expands_within policy s (All-get_or (IsEnd policy) sources place 0 (omega (arith, lt, are.sources_long)) are.sources_are)) (among_contains (expand policy s) source held)
  where
    f : (number : ℕ) × Contains rules number × (stands_at policy end source number ≡ true)
    f = any_gives (stands_at policy end source) rules e

    place : ℕ
    place = f.1.0

    lt : place < length rules
    lt = f.1.1

    s : ℕ
    s = slice_index sources place

    same : slice_index rules place ≡ f.0
    same = get_or_default rules place 0 f.0 lt ∙ f.1.2

    go : (o : Option StoredRule) → passes (λ (rule : StoredRule). (rule.target == end) && holds_type policy rule.source source) o ≡ true → passes (has_ends s (slice_index targets place)) o ≡ true → holds_type policy s source ≡ true
    go None j h = absurd (false≢true j)
    go (Some rule) j h =
        let both = and_parts (rule.target == end) (holds_type policy rule.source source) j in
        let is = (and_parts (rule.source == s) (rule.target == slice_index targets place) h).0 in
        subst (λ (x : ℕ). holds_type policy x source ≡ true) (eqb-true rule.source s is) both.1

    held : holds_type policy s source ≡ true
    held = go (slice_get (stored_rules policy) f.0) f.2 (subst (λ (n : ℕ). passes (has_ends s (slice_index targets place)) (slice_get (stored_rules policy) n) ≡ true) same (are.each place lt))

-- ---- what is found by all ends

-- a type that is found by way of an end is joined to a target that the end expands to
through_shares : (policy : Parts) (rules others types : List ℕ) (end source : ℕ) → holds_any policy types end ≡ true → shares_through policy rules others types end source ≡ true
    → (target : ℕ) × Contains types target × (any_joins policy rules source target ≡ true) × (any_joins policy others source target ≡ true)
through_shares policy rules others types end source touches e =
    let parts = and_parts (any_at policy rules end source) (joins_through policy others types end source) e in
    let through = λ (target : ℕ). holds_type policy end target && any_joins policy others source target in
    elim (cases_Bool (is_type_value policy end)) [
      | inl type ↦
          let f = any_gives (holds_type policy end) types touches in
          let there = sym (cond-true (is_type_value policy end) (any_at policy others end source) (list_any through types) type) ∙ parts.1 in
          (f.0, f.1, at_joins policy rules end source f.0 parts.0 f.2, at_joins policy others end source f.0 there f.2)
      | inr attribute ↦
          let f = any_gives through types (sym (cond-false (is_type_value policy end) (any_at policy others end source) (list_any through types) attribute) ∙ parts.1) in
          let both = and_parts (holds_type policy end f.0) (any_joins policy others source f.0) f.2 in
          (f.0, f.1, at_joins policy rules end source f.0 parts.0 both.0, both.1)
    ]

-- rules that share a target with others have an end by way of which they are found
share_through : (policy : Parts) (rules others types : List ℕ) (source target : ℕ) → Contains types target → StoredTarget policy rules source target → StoredTarget policy others source target
    → (end : ℕ) × IsEnd policy end × (holds_type policy end target ≡ true) × (shares_at policy rules others types end source ≡ true)
share_through policy rules others types source target there own theirs = elim (cases_Bool (is_type_value policy own.end)) [
  | inl type ↦ elim (cases_Bool (is_type_value policy theirs.end)) [
    | inl other ↦
        let a : own.end ≡ target = eqb-true own.end target (held_alone policy own.end target type ∙ own.holds) in
        let b : theirs.end ≡ target = eqb-true theirs.end target (held_alone policy theirs.end target other ∙ theirs.holds) in
        let at : any_at policy others own.end source ≡ true = subst (λ (x : ℕ). any_at policy others x source ≡ true) (b ∙ sym a) theirs.at in
        let through = λ (t : ℕ). holds_type policy own.end t && any_joins policy others source t in
        let e = and_from (any_at policy rules own.end source) (joins_through policy others types own.end source) own.at (cond-true (is_type_value policy own.end) (any_at policy others own.end source) (list_any through types) type ∙ at) in
        (own.end, own.is, own.holds, or_left (shares_through policy rules others types own.end source) (not (is_type_value policy own.end) && shares_through policy others rules types own.end source) e)
    | inr attribute ↦
        let e = by_attribute others rules theirs (any_from (λ (t : ℕ). holds_type policy theirs.end t && any_joins policy rules source t) types target there (and_from (holds_type policy theirs.end target) (any_joins policy rules source target) theirs.holds (at_joins policy rules own.end source target own.at own.holds))) attribute in (
          theirs.end,
          theirs.is,
          theirs.holds,
          or_right (shares_through policy rules others types theirs.end source) (not (is_type_value policy theirs.end) && shares_through policy others rules types theirs.end source) (and_from (not (is_type_value policy theirs.end)) (shares_through policy others rules types theirs.end source) (ap not attribute) e),
        )
  ]
  | inr attribute ↦
      let e = by_attribute rules others own (any_from (λ (t : ℕ). holds_type policy own.end t && any_joins policy others source t) types target there (and_from (holds_type policy own.end target) (any_joins policy others source target) own.holds (at_joins policy others theirs.end source target theirs.at theirs.holds))) attribute in
      (own.end, own.is, own.holds, or_left (shares_through policy rules others types own.end source) (not (is_type_value policy own.end) && shares_through policy others rules types own.end source) e)
]
  where
    by_attribute : (rules others : List ℕ) (own : StoredTarget policy rules source target) → list_any (λ t. holds_type policy own.end t && any_joins policy others source t) types ≡ true → is_type_value policy own.end ≡ false → shares_through policy rules others types own.end source ≡ true
    by_attribute rules others own meets attribute =
        and_from (any_at policy rules own.end source) (joins_through policy others types own.end source) own.at (cond-false (is_type_value policy own.end) (any_at policy others own.end source) (list_any (λ t. holds_type policy own.end t && any_joins policy others source t) types) attribute ∙ meets)

-- whether a type is joined to a target by rules and by others is found by the ends that touch the targets
found_by_ends : (policy : Parts) (rules sources targets others other_sources other_targets types ends : List ℕ) (source : ℕ) → AreEndsOf policy rules sources targets → AreEndsOf policy others other_sources other_targets → All (IsEnd policy) ends
    → ((value : ℕ) → IsEnd policy value → is_among ends value ≡ holds_any policy types value)
    → list_any (λ end. shares_at policy rules others types end source) ends ≡ list_any (λ target. any_joins policy rules source target && any_joins policy others source target) types
found_by_ends policy rules sources targets others other_sources other_targets types ends source own theirs are touch =
    same_tests (list_any (λ end. shares_at policy rules others types end source) ends) (list_any both types)
    (λ e.
    let f = any_gives (λ end. shares_at policy rules others types end source) ends e in
    let touches = sym (touch f.0 (All-contains (IsEnd policy) ends f.0 are f.1)) ∙ contains_among ends f.0 f.1 in
    elim (or_cases (shares_through policy rules others types f.0 source) (not (is_type_value policy f.0) && shares_through policy others rules types f.0 source) f.2) [
      | inl t ↦
          let g = through_shares policy rules others types f.0 source touches t in
          any_from both types g.0 g.1 (and_from (any_joins policy rules source g.0) (any_joins policy others source g.0) g.2 g.3)
      | inr t ↦
          let g = through_shares policy others rules types f.0 source touches (and_parts (not (is_type_value policy f.0)) (shares_through policy others rules types f.0 source) t).1 in
          any_from both types g.0 g.1 (and_from (any_joins policy rules source g.0) (any_joins policy others source g.0) g.3 g.2)
    ])
    (λ e.
    let f = any_gives both types e in
    let joined = and_parts (any_joins policy rules source f.0) (any_joins policy others source f.0) f.2 in
    let s = share_through policy rules others types source f.0 f.1 (stored_target policy rules sources targets source f.0 own joined.0) (stored_target policy others other_sources other_targets source f.0 theirs joined.1) in
    any_from (λ end. shares_at policy rules others types end source) ends s.0 (among_contains ends s.0 (touch s.0 s.1 ∙ any_from (holds_type policy s.0) types f.0 f.1 s.2)) s.3)
  where
    both : ℕ → Bool
    both target = any_joins policy rules source target && any_joins policy others source target

pub shared_are : (policy : Parts) (rules sources targets others other_sources other_targets types ends : List ℕ) → AreEndsOf policy rules sources targets → AreEndsOf policy others other_sources other_targets → All (IsEnd policy) ends
    → ((value : ℕ) → IsEnd policy value → is_among ends value ≡ holds_any policy types value)
    → filter (λ source. list_any (λ end. shares_at policy rules others types end source) ends) (range_with_len 1 policy.symbols.types.nprim) ≡ common_sources policy rules others types
unfolding common_sources
shared_are policy rules sources targets others other_sources other_targets types ends own theirs are touch =
    filter_agree (λ source. list_any (λ end. shares_at policy rules others types end source) ends) (λ source. list_any (λ target. any_joins policy rules source target && any_joins policy others source target) types) (range_with_len 1 policy.symbols.types.nprim)
    (λ k d lt. found_by_ends policy rules sources targets others other_sources other_targets types ends (get_or (range_with_len 1 policy.symbols.types.nprim) k d) own theirs are touch)

-- a type that is found has a value of the policy's types
pub shares_within : (policy : Parts) (rules sources targets others other_sources other_targets types ends : List ℕ) (source : ℕ) → AreEndsOf policy rules sources targets → AreEndsOf policy others other_sources other_targets
    → list_any (λ end. shares_at policy rules others types end source) ends ≡ true → (1 ≤ source) × (source < 1 + policy.symbols.types.nprim)
shares_within policy rules sources targets others other_sources other_targets types ends source own theirs e =
    let f = any_gives (λ end. shares_at policy rules others types end source) ends e in
    elim (or_cases (shares_through policy rules others types f.0 source) (not (is_type_value policy f.0) && shares_through policy others rules types f.0 source) f.2) [
      | inl t ↦ at_within policy rules sources targets f.0 source own (and_parts (any_at policy rules f.0 source) (joins_through policy others types f.0 source) t).0
      | inr t ↦
          let through = (and_parts (not (is_type_value policy f.0)) (shares_through policy others rules types f.0 source) t).1 in
          at_within policy others other_sources other_targets f.0 source theirs (and_parts (any_at policy others f.0 source) (joins_through policy rules types f.0 source) through).0
    ]

-- ---- the sources of one stored target

-- the rules with a stored target, by its places
by_stored_target : (policy : Parts) (rules sources targets : List ℕ) (by_source by_target : List (List ℕ)) (end source : ℕ) → IsTableOf policy rules sources targets by_source by_target
    → AreJoined policy rules targets sources by_target by_source (stands_at policy end source) (λ value. value == end) source
by_stored_target policy rules sources targets by_source by_target end source table = record {
  keys_long = table.ends.targets_long;
  others_long = table.ends.sources_long;
  keys_are = table.ends.targets_are;
  others_are = table.ends.sources_are;
  groups_are = table.targets_grouped;
  others_grouped = table.sources_grouped;
  law = λ place lt. go place (slice_get (stored_rules policy) (slice_index rules place)) (table.ends.each place lt);
}
  where
    go : (place : ℕ) (o : Option StoredRule) → passes (has_ends (slice_index sources place) (slice_index targets place)) o ≡ true
        → passes (λ (rule : StoredRule). (rule.target == end) && holds_type policy rule.source source) o ≡ ((slice_index targets place == end) && holds_type policy (slice_index sources place) source)
    go place None e = absurd (false≢true e)
    go place (Some rule) e =
        let both = and_parts (rule.source == slice_index sources place) (rule.target == slice_index targets place) e in
        let s = eqb-true rule.source (slice_index sources place) both.0 in
        let t = eqb-true rule.target (slice_index targets place) both.1 in
        ap (λ (x : ℕ). (x == end) && holds_type policy rule.source source) t ∙ ap (λ (x : ℕ). (slice_index targets place == end) && holds_type policy x source) s

one_holder : (policy : Parts) (groups : List (List ℕ)) (end : ℕ) → IsEnd policy end → AreHolders policy groups (λ value. value == end) (end ∷ [])
one_holder policy groups end is = record {
  each = λ value e places. or_false (end == value) ∙ same_tests (end == value) (value == end) (λ t. eq-eqb value end (sym (eqb-true end value t))) (λ t. eq-eqb end value (sym (eqb-true value end t)));
  within = All-cons (λ value. value ≤ policy.symbols.types.nprim) end [] is.within.1 (All-nil (λ value. value ≤ policy.symbols.types.nprim));
}

pub sources_at_are : (policy : Parts) (rules sources targets : List ℕ) (by_source by_target : List (List ℕ)) (end : ℕ) (ends : List ℕ) → IsTableOf policy rules sources targets by_source by_target → IsEnd policy end
    → ((value : ℕ) → is_among ends value ≡ is_other_end sources (group_of by_target) (end ∷ []) value)
    → filter (λ type. list_any (λ e. holds_type policy e type) ends) (range_with_len 1 policy.symbols.types.nprim) ≡ filter (any_at policy rules end) (range_with_len 1 policy.symbols.types.nprim)
sources_at_are policy rules sources targets by_source by_target end ends table is say =
    filter_agree (λ type. list_any (λ e. holds_type policy e type) ends) (any_at policy rules end) (range_with_len 1 policy.symbols.types.nprim)
    (λ k d lt. let type = get_or (range_with_len 1 policy.symbols.types.nprim) k d in
    others_hold policy rules targets sources by_target by_source (stands_at policy end type) (λ value. value == end) type (by_stored_target policy rules sources targets by_source by_target end type table) (end ∷ []) (one_holder policy by_target end is) ends say)

-- there are none where the target has no places
pub no_sources_at : (policy : Parts) (rules sources targets : List ℕ) (by_source by_target : List (List ℕ)) (end : ℕ) → IsTableOf policy rules sources targets by_source by_target → IsEnd policy end → group_of by_target end ≡ []
    → [] ≡ filter (any_at policy rules end) (range_with_len 1 policy.symbols.types.nprim)
no_sources_at policy rules sources targets by_source by_target end table is none =
    sym (filter_never (range_with_len 1 policy.symbols.types.nprim))
    ∙ sources_at_are policy rules sources targets by_source by_target end [] table is
    (λ value. sym (ap (λ (places : List ℕ). list_any (λ place. slice_index sources place == value) places || false) none))

-- ---- what one end adds

in_sources_at : (policy : Parts) (rules sources targets : List ℕ) (end source : ℕ) (own : List ℕ) → AreEndsOf policy rules sources targets → own ≡ filter (any_at policy rules end) (range_with_len 1 policy.symbols.types.nprim)
    → Contains own source ↔ (any_at policy rules end source ≡ true)
in_sources_at policy rules sources targets end source own are is =
    let range = range_with_len 1 policy.symbols.types.nprim in (
      λ there. (kept (any_at policy rules end) range source (subst (λ (xs : List ℕ). Contains xs source) is there)).1,
      λ e.
          let within = at_within policy rules sources targets end source are e in
          subst (λ (xs : List ℕ). Contains xs source) (sym is) (keeps (any_at policy rules end) range source (contains_range 1 policy.symbols.types.nprim source within.0 within.1) e),
    )

-- nothing, where the rules have no sources
pub none_through : (policy : Parts) (rules sources targets others types : List ℕ) (end source : ℕ) (own : List ℕ) (old : Bool) → AreEndsOf policy rules sources targets → own ≡ filter (any_at policy rules end) (range_with_len 1 policy.symbols.types.nprim) → own ≡ []
    → old ≡ (old || shares_through policy rules others types end source)
none_through policy rules sources targets others types end source own old are is none = go (any_at policy rules end source) refl
  where
    go : (b : Bool) → any_at policy rules end source ≡ b → old ≡ (old || (any_at policy rules end source && joins_through policy others types end source))
    go true e = absurd (contains_nothing source (subst (λ (xs : List ℕ). Contains xs source) none ((in_sources_at policy rules sources targets end source own are is).1 e)))
    go false e = sym (ap (λ (b : Bool). old || (b && joins_through policy others types end source)) e ∙ or_false old)

-- and else what both have
pub both_through : (policy : Parts) (rules sources targets others types : List ℕ) (end source : ℕ) (own theirs both : List ℕ) → AreEndsOf policy rules sources targets → own ≡ filter (any_at policy rules end) (range_with_len 1 policy.symbols.types.nprim)
    → theirs ≡ filter (joins_through policy others types end) (range_with_len 1 policy.symbols.types.nprim) → IsCommon own theirs both → is_among both source ≡ shares_through policy rules others types end source
both_through policy rules sources targets others types end source own theirs both are own_is theirs_is common =
    let range = range_with_len 1 policy.symbols.types.nprim in
    let through = joins_through policy others types end in
    let first = in_sources_at policy rules sources targets end source own are own_is in
    same_tests (is_among both source) (shares_through policy rules others types end source)
    (λ e.
    let parts = (common.each source).0 (among_contains both source e) in
    and_from (any_at policy rules end source) (through source) (first.0 parts.0) (kept through range source (subst (λ (xs : List ℕ). Contains xs source) theirs_is parts.1)).1)
    (λ e.
    let parts = and_parts (any_at policy rules end source) (through source) e in
    let within = at_within policy rules sources targets end source are parts.0 in
    let second = subst (λ (xs : List ℕ). Contains xs source) (sym theirs_is) (keeps through range source (contains_range 1 policy.symbols.types.nprim source within.0 within.1) parts.1) in
    contains_among both source ((common.each source).1 (first.1 parts.0, second)))

pub nil_of : {X : Type 0} (xs : List X) → (length xs == 0) ≡ true → xs ≡ []
nil_of [] e = refl
nil_of (x ∷ xs) e = absurd (omega (arith, eqb-true (length (x ∷ xs)) 0 e))

pub through_below : (policy : Parts) (p : ℕ → Bool) (own theirs both : List ℕ) (count : ℕ) → own ≡ filter p (range_with_len 1 policy.symbols.types.nprim) → IsCommon own theirs both → count ≡ policy.symbols.types.nprim + 1 → All (λ value. value < count) both
through_below policy p own theirs both count is common long = All-weaker (Contains both) (λ value. value < count) (λ value there.
    let range = range_with_len 1 policy.symbols.types.nprim in
    let k = kept p range value (subst (λ (xs : List ℕ). Contains xs value) is ((common.each value).0 there).0) in
    let w = All-contains (λ (b : ℕ). (1 ≤ b) × (b < 1 + policy.symbols.types.nprim)) range value (range_holds 1 policy.symbols.types.nprim) k.0 in
    omega (arith, w.1, long)) both (All-contains_itself both)

-- ---- what rules join to the types of an end

-- to a type by itself
pub through_type : (policy : Parts) (rules types : List ℕ) (end : ℕ) → is_type_value policy end ≡ true
    → filter (any_at policy rules end) (range_with_len 1 policy.symbols.types.nprim) ≡ filter (joins_through policy rules types end) (range_with_len 1 policy.symbols.types.nprim)
through_type policy rules types end type =
    filter_agree (any_at policy rules end) (joins_through policy rules types end) (range_with_len 1 policy.symbols.types.nprim)
    (λ k d lt. let source = get_or (range_with_len 1 policy.symbols.types.nprim) k d in
    sym (cond-true (is_type_value policy end) (any_at policy rules end source) (list_any (λ target. holds_type policy end target && any_joins policy rules source target) types) type))

-- to those of an attribute
pub through_attribute : (policy : Parts) (rules types members among : List ℕ) (end : ℕ) → IsEnd policy end → is_type_value policy end ≡ false
    → members ≡ filter (λ type. list_any (λ e. holds_type policy e type) (end ∷ [])) (range_with_len 1 policy.symbols.types.nprim) → IsCommon members types among
    → sources_to_any policy rules among ≡ filter (joins_through policy rules types end) (range_with_len 1 policy.symbols.types.nprim)
unfolding sources_to_any
through_attribute policy rules types members among end is attribute are common =
    filter_agree (λ source. list_any (any_joins policy rules source) among) (joins_through policy rules types end) range (λ k d lt. one (get_or range k d))
  where
    range : List ℕ
    range = range_with_len 1 policy.symbols.types.nprim

    held : ℕ → Bool
    held type = list_any (λ e. holds_type policy e type) (end ∷ [])

    one : (source : ℕ) → list_any (any_joins policy rules source) among ≡ joins_through policy rules types end source
    one source =
        let through = λ (target : ℕ). holds_type policy end target && any_joins policy rules source target in
        same_tests (list_any (any_joins policy rules source) among) (list_any through types)
        (λ e.
        let f = any_gives (any_joins policy rules source) among e in
        let parts = (common.each f.0).0 f.1 in
        let member = kept held range f.0 (subst (λ (xs : List ℕ). Contains xs f.0) are parts.0) in
        any_from through types f.0 parts.1 (and_from (holds_type policy end f.0) (any_joins policy rules source f.0) (sym (or_false (holds_type policy end f.0)) ∙ member.1) f.2))
        (λ e.
        let f = any_gives through types e in
        let parts = and_parts (holds_type policy end f.0) (any_joins policy rules source f.0) f.2 in
        let within = held_within policy (end ∷ []) f.0 (All-cons (IsEnd policy) end [] is (All-nil (IsEnd policy))) (or_false (holds_type policy end f.0) ∙ parts.0) in
        let member = subst (λ (xs : List ℕ). Contains xs f.0) (sym are) (keeps held range f.0 (contains_range 1 policy.symbols.types.nprim f.0 within.0 within.1) (or_false (holds_type policy end f.0) ∙ parts.0)) in
        any_from (any_joins policy rules source) among f.0 ((common.each f.0).1 (member, f.1)) parts.1)
        ∙ sym (cond-false (is_type_value policy end) (any_at policy rules end source) (list_any through types) attribute)

-- ---- the ends that touch some types

pub touching_are_ends : (policy : Parts) (m : Expansions) (types : List Node) (values : List ℕ) → IsPolicyMap policy m → IsTouching m.expansions m.attributes m.types types values → All (IsEnd policy) values
unfolding values_of_flavour
touching_are_ends policy m types values map are = All-weaker (Contains values) (IsEnd policy) (λ value there. elim ((are.each value).0 there).0 [
  | inl a ↦ of_flavour Attribute value (subst (λ (xs : List ℕ). Contains xs value) map.attributes a)
  | inr t ↦ of_flavour Plain value (subst (λ (xs : List ℕ). Contains xs value) map.types t)
]) values (All-contains_itself values)
  where
    declared : (flavour : Flavour) (found : Option Flavour) → is_flavour flavour found ≡ true → is_some found ≡ true
    declared Plain None e = absurd (false≢true e)
    declared Attribute None e = absurd (false≢true e)
    declared flavour (Some f) e = refl

    of_flavour : (flavour : Flavour) (value : ℕ) → Contains (filter (has_flavour policy.symbols flavour) (range_with_len 1 policy.symbols.types.nprim)) value → IsEnd policy value
    of_flavour flavour value there =
        let range = range_with_len 1 policy.symbols.types.nprim in
        let k = kept (has_flavour policy.symbols flavour) range value there in
        let w = All-contains (λ (b : ℕ). (1 ≤ b) × (b < 1 + policy.symbols.types.nprim)) range value (range_holds 1 policy.symbols.types.nprim) k.0 in
        record { within = (w.0, omega (arith, w.1)); declared = declared flavour (flavour_in policy.symbols value) k.1 }
