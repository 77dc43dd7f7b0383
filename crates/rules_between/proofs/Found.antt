-- What is found by places is what the rules say.
use Rattle.std.proofs.Common.{◌≡◌, ℕ, ◌+◌, ◌<◌, ◌≤◌, Bool, true, false, List, [], ◌∷◌, ◌++◌, Option, Some, None, length, map, get_or, slice_get, refl, sym, ap, subst, ◌∙◌, inl, inr, arith}
use Rattle.std.specs.Prelude.{◌==◌, ◌&&◌, ◌||◌, slice_index}
use Rattle.std.specs.List.{All, Contains, filter, flat_map, list_any, range_with_len}
use Rattle.std.specs.List.Sorted.{IsPermutation}
use Rattle.std.proofs.lemmas.Bool.{false≢true, cases_lt, eq-eqb, eqb-true, and_parts, and_from}
use Rattle.std.proofs.lemmas.List.{get_or_default, get_or_past}
use Rattle.std.proofs.lemmas.List.Elements.{All-nil, All-same, All-filter, All-get_or, All-weaker, All-from_get_or, All-contains, Contains-get_or}
use Rattle.std.proofs.lemmas.List.Sorted.{All-permutation, IsPermutation-sym, IsPermutation-map}
use Rattle.pol_bitmap.proofs.Elements.{range_holds, kept, keeps, contains_range}
use Rattle.pol_file.specs.declared.Parts.{Parts}
use Rattle.pol_read.specs.StoredRules.{StoredRule, stored_rules}
use Rattle.pol_bitmap.specs.declared.Node.{Node}
use Rattle.pol_bitmap.specs.Nodes.{bits_of}
use Rattle.pol_expand.specs.Expansion.{Expansions, IsTouching}
use Rattle.pol_expand.specs.PolicyMap.{IsPolicyMap}
use Rattle.pol_expand.proofs.Values.{same_tests}
use Rattle.rule_order.specs.ListedOrder.{AreRules, in_rule_order}
use Rattle.value_groups.specs.Among.{is_among}
use Rattle.value_groups.specs.Inner.Marking.{AreApart}
use Rattle.value_groups.specs.Inner.Grouping.{is_value_at, places_of, group_of, AreGroupsOf}
use Rattle.pol_expand.specs.JoinedTypes.{passes, holds_type, joins, is_rule_from_to, any_joins, targets_from, sources_to}
use Rattle.rules_between.specs.ChosenRules.{rules_between, sources_to_any}
use Rattle.pol_expand.specs.Inner.StoredEnds.{IsEnd, has_places, holds_any}
use Rattle.rules_between.specs.Inner.RuleTables.{AreEndsOf, IsTableOf, has_ends, places_to, rules_at, rules_found, any_found, is_other_end}
use Rattle.value_groups.proofs.Filters.{by_places, filter_map_is, grouped_by, and_comm, flat_map_agree, flat_map_of_maps, not_empty}
use Rattle.value_groups.proofs.Anys.{any_gives, any_from, among_contains, contains_among, any_agree, filter_agree}
use Rattle.pol_expand.proofs.Holders.{touching_within, touching_holds}
use Rattle.pol_expand.proofs.DeclaredEnds.{passes_within}

-- ---- a rule by its place

-- its ends are those of its place
joins_at : (policy : Parts) (rules sources targets : List ℕ) (source target place : ℕ) → AreEndsOf policy rules sources targets → place < length rules
    → joins policy source target (slice_index rules place) ≡ (holds_type policy (slice_index sources place) source && holds_type policy (slice_index targets place) target)
unfolding joins
joins_at policy rules sources targets source target place are lt = go (slice_get (stored_rules policy) (slice_index rules place)) (are.each place lt)
  where
    go : (o : Option StoredRule) → passes (has_ends (slice_index sources place) (slice_index targets place)) o ≡ true
        → passes (is_rule_from_to policy source target) o ≡ (holds_type policy (slice_index sources place) source && holds_type policy (slice_index targets place) target)
    go None e = absurd (false≢true e)
    go (Some rule) e =
        let both = and_parts (rule.source == slice_index sources place) (rule.target == slice_index targets place) e in
        let s = eqb-true rule.source (slice_index sources place) both.0 in
        let t = eqb-true rule.target (slice_index targets place) both.1 in
        ap (λ (x : ℕ). holds_type policy x source && holds_type policy rule.target target) s ∙ ap (λ (x : ℕ). holds_type policy (slice_index sources place) source && holds_type policy x target) t

-- ---- groups of some values

-- the places of the values among some, group by group and all at once
pub grouped : (keys : List ℕ) (q : ℕ → Bool) (ends : List ℕ) → AreApart ends
    → IsPermutation (flat_map (λ end. filter q (places_of keys end)) ends) (filter (λ place. is_among ends (slice_index keys place) && q place) (range_with_len 0 (length keys)))
unfolding places_of
grouped keys q ends apart = grouped_by (slice_index keys) q (range_with_len 0 (length keys)) ends apart

-- ---- by one end of the rules

-- Of some rules, the values of one end, grouped, and those of the other end: a test of a rule says that both ends expand to a type.
pub record AreJoined (policy : Parts) (rules keys others : List ℕ) (groups other_groups : List (List ℕ)) (joined held : ℕ → Bool) (y : ℕ) : Type 0 where
  pub keys_long : length keys ≡ length rules
  pub others_long : length others ≡ length rules
  pub keys_are : All (IsEnd policy) keys
  pub others_are : All (IsEnd policy) others
  pub groups_are : AreGroupsOf policy.symbols.types.nprim keys groups
  pub others_grouped : AreGroupsOf policy.symbols.types.nprim others other_groups
  pub law : (place : ℕ) → place < length rules → joined (slice_index rules place) ≡ (held (slice_index keys place) && holds_type policy (slice_index others place) y)

pub by_sources : (policy : Parts) (rules sources targets : List ℕ) (by_source by_target : List (List ℕ)) (source target : ℕ) → IsTableOf policy rules sources targets by_source by_target
    → AreJoined policy rules sources targets by_source by_target (joins policy source target) (λ value. holds_type policy value source) target
by_sources policy rules sources targets by_source by_target source target table = record {
  keys_long = table.ends.sources_long;
  others_long = table.ends.targets_long;
  keys_are = table.ends.sources_are;
  others_are = table.ends.targets_are;
  groups_are = table.sources_grouped;
  others_grouped = table.targets_grouped;
  law = λ place lt. joins_at policy rules sources targets source target place table.ends lt;
}

pub by_targets : (policy : Parts) (rules sources targets : List ℕ) (by_source by_target : List (List ℕ)) (source target : ℕ) → IsTableOf policy rules sources targets by_source by_target
    → AreJoined policy rules targets sources by_target by_source (joins policy source target) (λ value. holds_type policy value target) source
by_targets policy rules sources targets by_source by_target source target table = record {
  keys_long = table.ends.targets_long;
  others_long = table.ends.sources_long;
  keys_are = table.ends.targets_are;
  others_are = table.ends.sources_are;
  groups_are = table.targets_grouped;
  others_grouped = table.sources_grouped;
  law = λ place lt. joins_at policy rules sources targets source target place table.ends lt ∙ and_comm (holds_type policy (slice_index sources place) source) (holds_type policy (slice_index targets place) target);
}

-- Of the values that are ends of rules, some ends are those that pass a test.
pub record AreHolders (policy : Parts) (groups : List (List ℕ)) (held : ℕ → Bool) (ends : List ℕ) : Type 0 where
  pub each : (value : ℕ) → IsEnd policy value → has_places groups value ≡ true → is_among ends value ≡ held value
  pub within : All (λ value. value ≤ policy.symbols.types.nprim) ends

-- the ends that touch some types
pub touching_ends : (policy : Parts) (groups : List (List ℕ)) (map : Expansions) (types : List Node) (values ends : List ℕ) → IsPolicyMap policy map → IsTouching map.expansions map.attributes map.types types values → ends ≡ values → AreHolders policy groups (holds_any policy (bits_of types)) ends
touching_ends policy groups map types values ends is touching same = rw same (record {
  each = λ value end places. touching_holds policy map types values value is touching end;
  within = All-weaker (λ value. value < policy.symbols.types.nprim + 1) (λ value. value ≤ policy.symbols.types.nprim) (λ value lt. omega (arith, lt)) values (touching_within policy map types values is touching);
})

-- the end of a rule has places
stands_under : (most : ℕ) (keys : List ℕ) (groups : List (List ℕ)) (place : ℕ) → AreGroupsOf most keys groups → place < length keys → slice_index keys place ≤ most → has_places groups (slice_index keys place) ≡ true
unfolding places_of
stands_under most keys groups place are lt le =
    let key = slice_index keys place in
    let there = keeps (is_value_at keys key) (range_with_len 0 (length keys)) place (contains_range 0 (length keys) place (omega arith) (omega (arith, lt))) (eq-eqb key key refl) in
    not_empty (group_of groups key) place (subst (λ (ps : List ℕ). Contains ps place) (sym (are.each key le)) there)

module _ (policy : Parts) (rules keys others : List ℕ) (groups other_groups : List (List ℕ)) (joined held : ℕ → Bool) (y : ℕ) (are : AreJoined policy rules keys others groups other_groups joined held y) (from : List ℕ) (holders : AreHolders policy groups held from) where
  pub key_held : (place : ℕ) → place < length rules → is_among from (slice_index keys place) ≡ held (slice_index keys place)
  key_held place lt =
      let key_lt : place < length keys = omega (arith, lt, are.keys_long) in
      let is = All-get_or (IsEnd policy) keys place 0 key_lt are.keys_are in
      holders.each (slice_index keys place) is (stands_under policy.symbols.types.nprim keys groups place are.groups_are key_lt is.within.1)

  other_held : (to : List ℕ) → AreHolders policy other_groups (λ value. holds_type policy value y) to → (place : ℕ) → place < length rules → is_among to (slice_index others place) ≡ holds_type policy (slice_index others place) y
  other_held to ends place lt =
      let other_lt : place < length others = omega (arith, lt, are.others_long) in
      let is = All-get_or (IsEnd policy) others place 0 other_lt are.others_are in
      ends.each (slice_index others place) is (stands_under policy.symbols.types.nprim others other_groups place are.others_grouped other_lt is.within.1)

  pub places_in : (end place : ℕ) → end ≤ policy.symbols.types.nprim → Contains (group_of groups end) place → (place < length rules) × (slice_index keys place ≡ end)
  unfolding places_of
  places_in end place le there =
      let h = kept (is_value_at keys end) (range_with_len 0 (length keys)) place (subst (λ (ps : List ℕ). Contains ps place) (are.groups_are.each end le) there) in
      let w = All-contains (λ b. (0 ≤ b) × (b < 0 + length keys)) (range_with_len 0 (length keys)) place (range_holds 0 (length keys)) h.0 in
      (omega (arith, w.1, are.keys_long), eqb-true (slice_index keys place) end h.1)

  -- a place of a group is that of a rule, whose one end expands to the type
  rule_at : (end place : ℕ) → Contains from end → Contains (group_of groups end) place → holds_type policy (slice_index others place) y ≡ true → list_any joined rules ≡ true
  rule_at end place there in_group holds =
      let p = places_in end place (All-contains (λ value. value ≤ policy.symbols.types.nprim) from end holders.within there) in_group in
      let one : held (slice_index keys place) ≡ true = sym (key_held place p.0) ∙ contains_among from (slice_index keys place) (subst (λ (e : ℕ). Contains from e) (sym p.1) there) in
      any_from joined rules (slice_index rules place) (Contains-get_or rules place 0 p.0) (are.law place p.0 ∙ and_from (held (slice_index keys place)) (holds_type policy (slice_index others place) y) one holds)

  -- a rule has such a place
  place_of_rule : list_any joined rules ≡ true → (place : ℕ) × (place < length rules) × Contains from (slice_index keys place) × Contains (group_of groups (slice_index keys place)) place × (holds_type policy (slice_index others place) y ≡ true)
  unfolding places_of
  place_of_rule e =
      let f = any_gives joined rules e in
      let place = f.1.0 in
      let lt = f.1.1 in
      let both = and_parts (held (slice_index keys place)) (holds_type policy (slice_index others place) y) (sym (are.law place lt) ∙ ap joined (get_or_default rules place 0 f.0 lt ∙ f.1.2) ∙ f.2) in
      let key_lt : place < length keys = omega (arith, lt, are.keys_long) in
      let is = All-get_or (IsEnd policy) keys place 0 key_lt are.keys_are in
      let among = among_contains from (slice_index keys place) (key_held place lt ∙ both.0) in
      let group = keeps (is_value_at keys (slice_index keys place)) (range_with_len 0 (length keys)) place (contains_range 0 (length keys) place (omega arith) (omega (arith, key_lt))) (eq-eqb (slice_index keys place) (slice_index keys place) refl) in
      (place, lt, among, subst (λ (ps : List ℕ). Contains ps place) (sym (are.groups_are.each (slice_index keys place) is.within.1)) group, both.1)

  -- whether there is a rule
  any_is : (to : List ℕ) → AreHolders policy other_groups (λ value. holds_type policy value y) to → any_found others (group_of groups) from to ≡ list_any joined rules
  any_is to ends = same_tests (any_found others (group_of groups) from to) (list_any joined rules)
      (λ e.
      let f = any_gives (λ end. list_any (λ place. is_among to (slice_index others place)) (group_of groups end)) from e in
      let g = any_gives (λ place. is_among to (slice_index others place)) (group_of groups f.0) f.2 in
      let p = places_in f.0 g.0 (All-contains (λ value. value ≤ policy.symbols.types.nprim) from f.0 holders.within f.1) g.1 in
      rule_at f.0 g.0 f.1 g.1 (sym (other_held to ends g.0 p.0) ∙ g.2))
      (λ e.
      let r = place_of_rule e in
      any_from (λ end. list_any (λ place. is_among to (slice_index others place)) (group_of groups end)) from (slice_index keys r.0) r.2
      (any_from (λ place. is_among to (slice_index others place)) (group_of groups (slice_index keys r.0)) r.0 r.3 (other_held to ends r.0 r.1 ∙ r.4)))

  -- so it is by lists that are those
  pub any_by : (to own_others own_from : List ℕ) (answer : Bool) → AreHolders policy other_groups (λ value. holds_type policy value y) to → answer ≡ any_found own_others (group_of groups) own_from to → own_others ≡ others → own_from ≡ from
      → answer ≡ list_any joined rules
  any_by to own_others own_from answer ends is same_others same_from = rw (is, same_others, same_from) (any_is to ends)

  -- the types of the other ends
  pub others_hold : (ends : List ℕ) → ((value : ℕ) → is_among ends value ≡ is_other_end others (group_of groups) from value) → list_any (λ end. holds_type policy end y) ends ≡ list_any joined rules
  others_hold ends say = same_tests (list_any (λ end. holds_type policy end y) ends) (list_any joined rules)
      (λ e.
      let o = any_gives (λ end. holds_type policy end y) ends e in
      let f = any_gives (λ end. list_any (λ place. slice_index others place == o.0) (group_of groups end)) from (sym (say o.0) ∙ contains_among ends o.0 o.1) in
      let g = any_gives (λ place. slice_index others place == o.0) (group_of groups f.0) f.2 in
      rule_at f.0 g.0 f.1 g.1 (ap (λ (v : ℕ). holds_type policy v y) (eqb-true (slice_index others g.0) o.0 g.2) ∙ o.2))
      (λ e.
      let r = place_of_rule e in
      let o = slice_index others r.0 in
      any_from (λ end. holds_type policy end y) ends o
      (among_contains ends o (say o ∙ any_from (λ end. list_any (λ place. slice_index others place == o) (group_of groups end)) from (slice_index keys r.0) r.2
      (any_from (λ place. slice_index others place == o) (group_of groups (slice_index keys r.0)) r.0 r.3 (eq-eqb o o refl)))) r.4)

  -- the rules that are found
  found_is : (to : List ℕ) → AreApart from → AreHolders policy other_groups (λ value. holds_type policy value y) to → IsPermutation (rules_found rules others (group_of groups) from to) (filter joined rules)
  found_is to apart ends =
      let r = slice_index rules in
      let q = λ (place : ℕ). is_among to (slice_index others place) in
      let range = range_with_len 0 (length keys) in
      let one : rules_found rules others (group_of groups) from to ≡ map r (flat_map (λ end. filter q (places_of keys end)) from) =
      flat_map_agree (λ end. rules_at rules (places_to others to (group_of groups end))) (λ end. map r (filter q (places_of keys end))) from
      (All-weaker (λ value. value ≤ policy.symbols.types.nprim) (λ end. rules_at rules (places_to others to (group_of groups end)) ≡ map r (filter q (places_of keys end))) (λ end le. ap (λ (ps : List ℕ). map r (filter q ps)) (are.groups_are.each end le)) from holders.within)
      ∙ flat_map_of_maps r (λ end. filter q (places_of keys end)) from in
      let agree : filter (λ place. is_among from (slice_index keys place) && q place) range ≡ filter (λ place. joined (r place)) range =
      filter_agree (λ place. is_among from (slice_index keys place) && q place) (λ place. joined (r place)) range
      (All-weaker (λ b. (0 ≤ b) × (b < 0 + length keys)) (λ place. (is_among from (slice_index keys place) && q place) ≡ joined (r place))
      (λ place w.
      let lt : place < length rules = omega (arith, w.1, are.keys_long) in
      ap (λ (c : Bool). c && q place) (key_held place lt) ∙ ap (λ (c : Bool). held (slice_index keys place) && c) (other_held to ends place lt) ∙ sym (are.law place lt))
      range (range_holds 0 (length keys))) in
      let all : map r (filter (λ place. joined (r place)) range) ≡ filter joined rules =
      sym (filter_map_is r joined range) ∙ ap (filter joined) (ap (λ (n : ℕ). map r (range_with_len 0 n)) are.keys_long ∙ sym (by_places rules)) in
      subst (λ (ys : List ℕ). IsPermutation ys (filter joined rules)) (sym one)
      (subst (λ (ys : List ℕ). IsPermutation (map r (flat_map (λ end. filter q (places_of keys end)) from)) ys) (ap (map r) agree ∙ all)
      (IsPermutation-map r (flat_map (λ end. filter q (places_of keys end)) from) (filter (λ place. is_among from (slice_index keys place) && q place) range) (grouped keys q from apart)))

  -- so they are by lists that are those
  pub found_by : (to own_rules own_others own_from found : List ℕ) → AreApart from → AreHolders policy other_groups (λ value. holds_type policy value y) to → found ≡ rules_found own_rules own_others (group_of groups) own_from to → own_rules ≡ rules → own_others ≡ others
      → own_from ≡ from → IsPermutation found (filter joined rules)
  found_by to own_rules own_others own_from found apart ends is same_rules same_others same_from = rw (is, same_rules, same_others, same_from) (found_is to apart ends)

-- ---- rules in order

-- rules of a list are stored rules
pub are_rules : (policy : Parts) (rules sources targets : List ℕ) → AreEndsOf policy rules sources targets → AreRules policy rules
are_rules policy rules sources targets are = All-from_get_or (λ n. n < length (stored_rules policy)) rules 0 (λ place lt. passes_within policy (has_ends (slice_index sources place) (slice_index targets place)) (slice_index rules place) (are.each place lt))

-- places of any group are within the list
pub groups_within : (most : ℕ) (keys : List ℕ) (groups : List (List ℕ)) (n : ℕ) → AreGroupsOf most keys groups → length keys ≡ n → (end : ℕ) → All (λ place. place < n) (group_of groups end)
unfolding places_of
groups_within most keys groups n are long end = elim (cases_lt end (most + 1)) [
  | inl lt ↦
      All-same (λ place. place < n) (group_of groups end) (places_of keys end) (are.each end (omega (arith, lt)))
      (All-filter (is_value_at keys end) (λ place. place < n) (range_with_len 0 (length keys)) (All-weaker (λ b. (0 ≤ b) × (b < 0 + length keys)) (λ place. place < n) (λ b w. omega (arith, w.1, long)) (range_with_len 0 (length keys)) (range_holds 0 (length keys))))
  | inr past ↦ All-same (λ place. place < n) (group_of groups end) [] (get_or_past groups end [] (omega (arith, past, are.count))) (All-nil (λ place. place < n))
]

-- other ends are ends
pub others_are_ends : (policy : Parts) (others : List ℕ) (groups : List (List ℕ)) (n : ℕ) (from ends : List ℕ) → All (IsEnd policy) others → ((end : ℕ) → All (λ place. place < length others) (group_of groups end))
    → ((value : ℕ) → is_among ends value ≡ is_other_end others (group_of groups) from value) → All (IsEnd policy) ends
others_are_ends policy others groups n from ends are within say = All-from_get_or (IsEnd policy) ends 0 λ k lt.
    let v = get_or ends k 0 in
    let f = any_gives (λ end. list_any (λ place. slice_index others place == v) (group_of groups end)) from (sym (say v) ∙ contains_among ends v (Contains-get_or ends k 0 lt)) in
    let g = any_gives (λ place. slice_index others place == v) (group_of groups f.0) f.2 in
    let below = All-contains (λ place. place < length others) (group_of groups f.0) g.0 (within f.0) g.1 in
    subst (IsEnd policy) (eqb-true (slice_index others g.0) v g.2) (All-get_or (IsEnd policy) others g.0 0 below are)

-- the rules that are found are stored rules, and in order they are those between the types
found_are_rules : (policy : Parts) (rules found : List ℕ) (joined : ℕ → Bool) → AreRules policy rules → IsPermutation found (filter joined rules) → AreRules policy found
found_are_rules policy rules found joined are moved =
    let P = λ (n : ℕ). n < length (stored_rules policy) in
    All-permutation P (filter joined rules) found (IsPermutation-sym found (filter joined rules) moved) (All-filter joined P rules are)

pub between_is : (policy : Parts) (rules sources targets : List ℕ) (source target : ℕ) (found : List ℕ) → ((xs ys : List ℕ) → AreRules policy xs → IsPermutation xs ys → in_rule_order policy xs ≡ in_rule_order policy ys) → AreEndsOf policy rules sources targets
    → IsPermutation found (filter (joins policy source target) rules) → AreRules policy found × (in_rule_order policy found ≡ rules_between policy rules source target)
between_is policy rules sources targets source target found settled ends moved =
    let found_are = found_are_rules policy rules found (joins policy source target) (are_rules policy rules sources targets ends) moved in
    (found_are, settled found (filter (joins policy source target) rules) found_are moved)

-- the types of the other ends, where the sources are given, and where the targets are
pub targets_are : (policy : Parts) (rules sources targets : List ℕ) (by_source by_target : List (List ℕ)) (source : ℕ) (from ends : List ℕ) → IsTableOf policy rules sources targets by_source by_target → AreHolders policy by_source (λ value. holds_type policy value source) from
    → ((value : ℕ) → is_among ends value ≡ is_other_end targets (group_of by_source) from value)
    → filter (λ type. list_any (λ end. holds_type policy end type) ends) (range_with_len 1 policy.symbols.types.nprim) ≡ targets_from policy rules source
unfolding targets_from
targets_are policy rules sources targets by_source by_target source from ends table holders say =
    filter_agree (λ type. list_any (λ end. holds_type policy end type) ends) (any_joins policy rules source) (range_with_len 1 policy.symbols.types.nprim)
    (λ k d lt. let type = get_or (range_with_len 1 policy.symbols.types.nprim) k d in
    others_hold policy rules sources targets by_source by_target (joins policy source type) (λ value. holds_type policy value source) type (by_sources policy rules sources targets by_source by_target source type table) from holders ends say)

pub sources_are : (policy : Parts) (rules sources targets : List ℕ) (by_source by_target : List (List ℕ)) (target : ℕ) (from ends : List ℕ) → IsTableOf policy rules sources targets by_source by_target → AreHolders policy by_target (λ value. holds_type policy value target) from
    → ((value : ℕ) → is_among ends value ≡ is_other_end sources (group_of by_target) from value)
    → filter (λ type. list_any (λ end. holds_type policy end type) ends) (range_with_len 1 policy.symbols.types.nprim) ≡ sources_to policy rules target
unfolding sources_to
sources_are policy rules sources targets by_source by_target target from ends table holders say =
    filter_agree (λ type. list_any (λ end. holds_type policy end type) ends) (λ source. any_joins policy rules source target) (range_with_len 1 policy.symbols.types.nprim)
    (λ k d lt. let type = get_or (range_with_len 1 policy.symbols.types.nprim) k d in
    others_hold policy rules targets sources by_target by_source (joins policy type target) (λ value. holds_type policy value target) type (by_targets policy rules sources targets by_source by_target type target table) from holders ends say)

-- ---- the sources of some targets

and_any : (b : Bool) (p : ℕ → Bool) (xs : List ℕ) → list_any (λ x. b && p x) xs ≡ (list_any p xs && b)
and_any true p xs = sym (and_comm (list_any p xs) true)
and_any false p [] = refl
and_any false p (x ∷ xs) = and_any false p xs ∙ and_comm (list_any p xs) false ∙ and_comm false (p x || list_any p xs)

pub by_any_target : (policy : Parts) (rules sources targets : List ℕ) (by_source by_target : List (List ℕ)) (source : ℕ) (nodes : List ℕ) → IsTableOf policy rules sources targets by_source by_target
    → AreJoined policy rules targets sources by_target by_source (λ number. list_any (λ target. joins policy source target number) nodes) (holds_any policy nodes) source
by_any_target policy rules sources targets by_source by_target source nodes table = record {
  keys_long = table.ends.targets_long;
  others_long = table.ends.sources_long;
  keys_are = table.ends.targets_are;
  others_are = table.ends.sources_are;
  groups_are = table.targets_grouped;
  others_grouped = table.sources_grouped;
  law = λ place lt.
      any_agree (λ target. joins policy source target (slice_index rules place)) (λ target. holds_type policy (slice_index sources place) source && holds_type policy (slice_index targets place) target) nodes
      (λ k d in_nodes. joins_at policy rules sources targets source (get_or nodes k d) place table.ends lt)
      ∙ and_any (holds_type policy (slice_index sources place) source) (holds_type policy (slice_index targets place)) nodes;
}

any_swap : (test : ℕ → ℕ → Bool) (xs ys : List ℕ) → list_any (λ x. list_any (test x) ys) xs ≡ list_any (λ y. list_any (λ x. test x y) xs) ys
any_swap test xs ys = same_tests (list_any (λ x. list_any (test x) ys) xs) (list_any (λ y. list_any (λ x. test x y) xs) ys)
    (λ e.
    let f = any_gives (λ x. list_any (test x) ys) xs e in
    let g = any_gives (test f.0) ys f.2 in
    any_from (λ y. list_any (λ x. test x y) xs) ys g.0 g.1 (any_from (λ x. test x g.0) xs f.0 f.1 g.2))
    (λ e.
    let f = any_gives (λ y. list_any (λ x. test x y) xs) ys e in
    let g = any_gives (λ x. test x f.0) xs f.2 in
    any_from (λ x. list_any (test x) ys) xs g.0 g.1 (any_from (test g.0) ys f.0 f.1 g.2))

pub any_sources_are : (policy : Parts) (rules sources targets : List ℕ) (by_source by_target : List (List ℕ)) (nodes from ends : List ℕ) → IsTableOf policy rules sources targets by_source by_target → AreHolders policy by_target (holds_any policy nodes) from
    → ((value : ℕ) → is_among ends value ≡ is_other_end sources (group_of by_target) from value)
    → filter (λ type. list_any (λ end. holds_type policy end type) ends) (range_with_len 1 policy.symbols.types.nprim) ≡ sources_to_any policy rules nodes
unfolding sources_to_any
any_sources_are policy rules sources targets by_source by_target nodes from ends table holders say =
    filter_agree (λ type. list_any (λ end. holds_type policy end type) ends) (λ source. list_any (any_joins policy rules source) nodes) (range_with_len 1 policy.symbols.types.nprim)
    (λ k d lt. let type = get_or (range_with_len 1 policy.symbols.types.nprim) k d in
    others_hold policy rules targets sources by_target by_source (λ number. list_any (λ target. joins policy type target number) nodes) (holds_any policy nodes) type (by_any_target policy rules sources targets by_source by_target type nodes table) from holders ends say
    ∙ any_swap (λ number target. joins policy type target number) rules nodes)
