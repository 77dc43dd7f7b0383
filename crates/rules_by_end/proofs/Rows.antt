-- The rows of rules under one of their ends, and what is found among them.
use Rattle.std.proofs.Common.{◌≡◌, ℕ, ◌+◌, ◌<◌, ◌≤◌, Bool, true, false, cond, List, [], ◌∷◌, ◌++◌, Option, Some, None, Result, Ok, Err, IfOk, length, map, take, get_or, slice_get, refl, sym, ap, subst, ◌∙◌, inl, inr, arith, append-nil}
use Rattle.std.specs.Prelude.{◌==◌, ◌&&◌, ◌||◌, not, option_map}
use Rattle.std.specs.Global.{Vec}
use Rattle.pol_bitmap.specs.declared.Node.{Node}
use Rattle.pol_bitmap.specs.Nodes.{bits_of}
use Rattle.std.specs.List.{All, Contains, filter, flat_map, list_any, range_with_len}
use Rattle.std.specs.List.Sorted.{IsPermutation}
use Rattle.std.proofs.lemmas.Bool.{false≢true, cases_lt, eq-eqb, eqb-true, and_parts, and_from}
use Rattle.std.proofs.lemmas.List.{length-map, get_or_past, take_more}
use Rattle.std.proofs.lemmas.List.Concat.{flat_map-append}
use Rattle.std.proofs.lemmas.List.Elements.{All-nil, All-same, All-weaker, All-contains, All-from_get_or, All-map, Contains-get_or}
use Rattle.std.proofs.lemmas.Option.{none-some, same_Some}
use Rattle.std.proofs.lemmas.List.Sorted.{All-permutation, IsPermutation-append_left, IsPermutation-map, IsPermutation-sym, IsPermutation-trans, length_permutation, list_any-IsPermutation}
use Rattle.pol_bitmap.proofs.Elements.{kept, keeps}
use Rattle.pol_file.specs.Acceptance.{accept}
use Rattle.pol_file.specs.declared.Parts.{Parts}
use Rattle.pol_file.proofs.Acceptances.{accepted_has_type_values}
use Rattle.pol_read.specs.declared.RuleEnds.{RuleEnds}
use Rattle.pol_read.specs.StoredRules.{StoredRule, ends_of, stored_rules}
use Rattle.pol_read.proofs.RulesDeclared.{rule_is_declared}
use Rattle.pol_expand.proofs.Values.{same_tests}
use Rattle.value_groups.specs.Among.{is_among}
use Rattle.value_groups.specs.Inner.Marking.{AreApart}
use Rattle.rules_by_end.specs.declared.rule_row.RuleRow.{RuleRow}
use Rattle.rules_by_end.specs.declared.source_or_target.RuleEnd.{RuleEnd}
use Rattle.rules_by_end.specs.declared.source_or_target.RuleEnd.TheVariants.{Source, Target}
use Rattle.pol_expand.specs.JoinedTypes.{passes, holds_type, joins, is_rule_from_to, is_between_types, has_type_ends, targets_from, sources_to}
use Rattle.rules_by_end.specs.RulesByEnd.{AreRowsOf, HoldRules, RulesByEnd, end_found, end_of, other_end, others_of, row_of, rows_under, rules_under, stored_end}
use Rattle.pol_expand.specs.Inner.StoredEnds.{IsEnd}
use Rattle.rules_by_end.specs.Inner.GroupedRules.{AreFarEnds, has_rows, is_far_end, joins_by, rules_joining, rules_to}
use Rattle.value_groups.proofs.Anys.{any_gives, any_from, among_contains, contains_among, filter_agree}
use Rattle.pol_expand.proofs.DeclaredEnds.{source_is_end, target_is_end}
use Rattle.value_groups.proofs.Filters.{and_comm, grouped_by, not_empty}
use Rattle.rules_by_end.proofs.Permuted.{filter_permuted, parts_permuted}

-- ---- the stored ends of a rule

-- an end that was read is the stored one
pub end_is : (policy : Parts) (near : RuleEnd) (number : ℕ) (ends : RuleEnds) → option_map ends_of (slice_get (stored_rules policy) number) ≡ Some ends → end_of near ends ≡ stored_end policy near number
unfolding stored_end
end_is policy near number ends is = go (slice_get (stored_rules policy) number) is
  where
    go : (o : Option StoredRule) → option_map ends_of o ≡ Some ends → end_of near ends ≡ end_found near o
    go None e = absurd (none-some ends e)
    go (Some rule) e = ap (end_of near) (sym (same_Some (ends_of rule) ends e))

-- the ends of a rule between types are types and attributes
pub stored_is_end : (bytes : List ℕ) (policy : Parts) (near : RuleEnd) (number : ℕ) → accept bytes ≡ Ok policy → is_between_types policy number ≡ true → IsEnd policy (stored_end policy near number)
unfolding stored_end
stored_is_end bytes policy near number accepted types = go (slice_get (stored_rules policy) number) refl types
  where
    side : (end : RuleEnd) (rule : StoredRule) → slice_get (stored_rules policy) number ≡ Some rule → has_type_ends rule.kind ≡ true → IsEnd policy (end_of end (ends_of rule))
    side Source rule at is = source_is_end policy rule (accepted_has_type_values bytes policy accepted) is (rule_is_declared bytes policy number rule accepted at)
    side Target rule at is = target_is_end policy rule (accepted_has_type_values bytes policy accepted) is (rule_is_declared bytes policy number rule accepted at)

    go : (o : Option StoredRule) → slice_get (stored_rules policy) number ≡ o → passes (λ rule. has_type_ends rule.kind) o ≡ true → IsEnd policy (end_found near o)
    go None at e = absurd (false≢true e)
    go (Some rule) at e = side near rule at e

joins_ends : (policy : Parts) (source target number : ℕ) → is_between_types policy number ≡ true → joins policy source target number ≡ (holds_type policy (stored_end policy Source number) source && holds_type policy (stored_end policy Target number) target)
unfolding joins stored_end
joins_ends policy source target number types = go (slice_get (stored_rules policy) number) types
  where
    go : (o : Option StoredRule) → passes (λ rule. has_type_ends rule.kind) o ≡ true → passes (is_rule_from_to policy source target) o ≡ (holds_type policy (end_found Source o) source && holds_type policy (end_found Target o) target)
    go None e = absurd (false≢true e)
    go (Some rule) e = refl

-- a rule joins two types where its ends hold them
pub joins_near : (policy : Parts) (near : RuleEnd) (node other number : ℕ) → is_between_types policy number ≡ true → joins_by near policy node other number ≡ (holds_type policy (stored_end policy near number) node && holds_type policy (stored_end policy (other_end near) number) other)
joins_near policy Source node other number types = joins_ends policy node other number types
joins_near policy Target node other number types = joins_ends policy other node number types ∙ and_comm (holds_type policy (stored_end policy Source number) other) (holds_type policy (stored_end policy Target number) node)

-- ---- rows

-- the rules of rows, whose other ends are among some
rules_of_rows : (policy : Parts) (near : RuleEnd) (to rules : List ℕ) → rules_to to (map (row_of policy near) rules) ≡ filter (λ number. is_among to (stored_end policy (other_end near) number)) rules
rules_of_rows policy near to [] = refl
rules_of_rows policy near to (x ∷ xs) = go (is_among to (stored_end policy (other_end near) x)) (rules_of_rows policy near to xs)
  where
    go : (b : Bool) → rules_to to (map (row_of policy near) xs) ≡ filter (λ number. is_among to (stored_end policy (other_end near) number)) xs
        → map (λ (row : RuleRow). row.rule) (cond b (row_of policy near x ∷ filter (λ (row : RuleRow). is_among to row.far) (map (row_of policy near) xs)) (filter (λ (row : RuleRow). is_among to row.far) (map (row_of policy near) xs)))
        ≡ cond b (x ∷ filter (λ number. is_among to (stored_end policy (other_end near) number)) xs) (filter (λ number. is_among to (stored_end policy (other_end near) number)) xs)
    go true later = ap (λ (ys : List ℕ). x ∷ ys) later
    go false later = later

-- they are the same in any order of the rows
rules_to_permuted : (to : List ℕ) (xs ys : List RuleRow) → IsPermutation xs ys → IsPermutation (rules_to to xs) (rules_to to ys)
rules_to_permuted to xs ys same =
    let p = λ (row : RuleRow). is_among to row.far in
    IsPermutation-map (λ (row : RuleRow). row.rule) (filter p xs) (filter p ys) (filter_permuted p xs ys same)

-- whether one of the other ends passes a test
any_of_rows : (policy : Parts) (near : RuleEnd) (p : ℕ → Bool) (rules : List ℕ) → list_any (λ (row : RuleRow). p row.far) (map (row_of policy near) rules) ≡ list_any (λ number. p (stored_end policy (other_end near) number)) rules
any_of_rows policy near p [] = refl
any_of_rows policy near p (x ∷ xs) = ap (λ (b : Bool). p (stored_end policy (other_end near) x) || b) (any_of_rows policy near p xs)

-- the other ends are types and attributes
pub far_ends_are : (bytes : List ℕ) (policy : Parts) (near : RuleEnd) (rules : List ℕ) (rows : List (List RuleRow)) → accept bytes ≡ Ok policy → All (λ number. is_between_types policy number ≡ true) rules → AreRowsOf policy near rules rows → AreFarEnds policy rows
far_ends_are bytes policy near rules rows accepted types are value = elim (cases_lt value (policy.symbols.types.nprim + 1)) [
  | inl lt ↦ All-permutation (λ (row : RuleRow). IsEnd policy row.far) (map (row_of policy near) (rules_under policy near rules value)) (rows_under rows value)
      (IsPermutation-sym (rows_under rows value) (map (row_of policy near) (rules_under policy near rules value)) (are.each value (omega (arith, lt))))
      (of_rules (rules_under policy near rules value) (λ number there. All-contains (λ n. is_between_types policy n ≡ true) rules number types (kept (λ n. stored_end policy near n == value) rules number there).0))
  | inr past ↦ All-same (λ (row : RuleRow). IsEnd policy row.far) (rows_under rows value) [] (get_or_past rows value [] (omega (arith, past, are.count))) (All-nil (λ (row : RuleRow). IsEnd policy row.far))
]
  where
    of_rules : (numbers : List ℕ) → ((number : ℕ) → Contains numbers number → is_between_types policy number ≡ true) → All (λ (row : RuleRow). IsEnd policy row.far) (map (row_of policy near) numbers)
    of_rules numbers each = All-map (λ (row : RuleRow). IsEnd policy row.far) (row_of policy near) numbers
        (All-from_get_or (λ number. IsEnd policy (stored_end policy (other_end near) number)) numbers 0 (λ k lt. stored_is_end bytes policy (other_end near) (get_or numbers k 0) accepted (each (get_or numbers k 0) (Contains-get_or numbers k 0 lt))))

-- ---- what is found

module _ (bytes : List ℕ) (table : RulesByEnd) (rules : List ℕ) (accepted : accept bytes ≡ Ok table.policy) (hold : HoldRules table rules) (node : ℕ) (from : List ℕ)
    (each : (value : ℕ) → IsEnd table.policy value → has_rows table.rows value ≡ true → is_among from value ≡ holds_type table.policy value node) (within : All (λ value. value ≤ table.policy.symbols.types.nprim) from) where
  abbrev pub near_end : ℕ → ℕ
  near_end = stored_end table.policy table.near

  abbrev pub far_end : ℕ → ℕ
  far_end = stored_end table.policy (other_end table.near)

  is_far : (number : ℕ) → Contains rules number → IsEnd table.policy (far_end number)
  is_far number there = stored_is_end bytes table.policy (other_end table.near) number accepted (All-contains (λ n. is_between_types table.policy n ≡ true) rules number hold.between there)

  -- the near end of a rule is among the ends exactly where it holds the type
  near_held : (number : ℕ) → Contains rules number → is_among from (near_end number) ≡ holds_type table.policy (near_end number) node
  near_held number there =
      let is = stored_is_end bytes table.policy table.near number accepted (All-contains (λ n. is_between_types table.policy n ≡ true) rules number hold.between there) in
      let key = near_end number in
      let under = keeps (λ n. near_end n == key) rules number there (eq-eqb key key refl) in
      let has : has_rows table.rows key ≡ true =
      ap (λ (n : ℕ). not (n == 0))
      (sym (length_permutation (rows_under table.rows key) (map (row_of table.policy table.near) (rules_under table.policy table.near rules key)) (hold.rows.each key is.within.1)) ∙ length-map (rules_under table.policy table.near rules key) (row_of table.policy table.near))
      ∙ not_empty (rules_under table.policy table.near rules key) number under in
      each key is has

  -- the rules that are found
  pub joining_is : (other : ℕ) (to found : List ℕ) → AreApart from → ((value : ℕ) → IsEnd table.policy value → is_among to value ≡ holds_type table.policy value other) → IsPermutation found (rules_joining table.rows from to) → IsPermutation found (filter (joins_by table.near table.policy node other) rules)
  joining_is other to found apart held same =
      let q = λ (number : ℕ). is_among to (far_end number) in
      let by_end = λ (end : ℕ). filter q (filter (λ n. near_end n == end) rules) in
      let joined = filter (joins_by table.near table.policy node other) rules in
      let each : IsPermutation (rules_joining table.rows from to) (flat_map by_end from) =
      parts_permuted (λ end. rules_to to (rows_under table.rows end)) by_end from
      (All-weaker (λ value. value ≤ table.policy.symbols.types.nprim) (λ end. IsPermutation (rules_to to (rows_under table.rows end)) (by_end end))
      (λ end le. subst (IsPermutation (rules_to to (rows_under table.rows end))) (rules_of_rows table.policy table.near to (rules_under table.policy table.near rules end))
      (rules_to_permuted to (rows_under table.rows end) (map (row_of table.policy table.near) (rules_under table.policy table.near rules end)) (hold.rows.each end le))) from within) in
      let agree : filter (λ n. is_among from (near_end n) && q n) rules ≡ joined =
      filter_agree (λ n. is_among from (near_end n) && q n) (joins_by table.near table.policy node other) rules
      (λ k d lt. let n = get_or rules k d in let there = Contains-get_or rules k d lt in
      ap (λ (b : Bool). b && q n) (near_held n there) ∙ ap (λ (b : Bool). holds_type table.policy (near_end n) node && b) (held (far_end n) (is_far n there))
      ∙ sym (joins_near table.policy table.near node other n (All-contains (λ n. is_between_types table.policy n ≡ true) rules n hold.between there))) in
      IsPermutation-trans found (rules_joining table.rows from to) joined same
      (IsPermutation-trans (rules_joining table.rows from to) (flat_map by_end from) joined each (subst (IsPermutation (flat_map by_end from)) agree (grouped_by near_end q rules from apart)))

  -- the types of the other ends
  pub far_hold : (other : ℕ) (ends : List ℕ) → ((value : ℕ) → is_among ends value ≡ is_far_end table.rows from value) → list_any (λ end. holds_type table.policy end other) ends ≡ list_any (joins_by table.near table.policy node other) rules
  far_hold other ends say = same_tests (list_any (λ end. holds_type table.policy end other) ends) (list_any (joins_by table.near table.policy node other) rules) there back
    where
      test : ℕ → ℕ → Bool
      test value end = list_any (λ (row : RuleRow). row.far == value) (rows_under table.rows end)

      rows_say : (end value : ℕ) → end ≤ table.policy.symbols.types.nprim → test value end ≡ list_any (λ number. far_end number == value) (rules_under table.policy table.near rules end)
      rows_say end value le =
          list_any-IsPermutation (λ (row : RuleRow). row.far == value) (rows_under table.rows end) (map (row_of table.policy table.near) (rules_under table.policy table.near rules end)) (hold.rows.each end le)
          ∙ any_of_rows table.policy table.near (λ far. far == value) (rules_under table.policy table.near rules end)

      there : list_any (λ end. holds_type table.policy end other) ends ≡ true → list_any (joins_by table.near table.policy node other) rules ≡ true
      there e =
          let o = any_gives (λ end. holds_type table.policy end other) ends e in
          let f = any_gives (test o.0) from (sym (say o.0) ∙ contains_among ends o.0 o.1) in
          let le = All-contains (λ value. value ≤ table.policy.symbols.types.nprim) from f.0 within f.1 in
          let g = any_gives (λ number. far_end number == o.0) (rules_under table.policy table.near rules f.0) (sym (rows_say f.0 o.0 le) ∙ f.2) in
          let under = kept (λ n. near_end n == f.0) rules g.0 g.1 in
          let near : holds_type table.policy (near_end g.0) node ≡ true = sym (near_held g.0 under.0) ∙ contains_among from (near_end g.0) (subst (λ (end : ℕ). Contains from end) (sym (eqb-true (near_end g.0) f.0 under.1)) f.1) in
          let far : holds_type table.policy (far_end g.0) other ≡ true = ap (λ (v : ℕ). holds_type table.policy v other) (eqb-true (far_end g.0) o.0 g.2) ∙ o.2 in
          any_from (joins_by table.near table.policy node other) rules g.0 under.0
          (joins_near table.policy table.near node other g.0 (All-contains (λ n. is_between_types table.policy n ≡ true) rules g.0 hold.between under.0)
          ∙ and_from (holds_type table.policy (near_end g.0) node) (holds_type table.policy (far_end g.0) other) near far)

      back : list_any (joins_by table.near table.policy node other) rules ≡ true → list_any (λ end. holds_type table.policy end other) ends ≡ true
      back e =
          let r = any_gives (joins_by table.near table.policy node other) rules e in
          let both = and_parts (holds_type table.policy (near_end r.0) node) (holds_type table.policy (far_end r.0) other)
          (sym (joins_near table.policy table.near node other r.0 (All-contains (λ n. is_between_types table.policy n ≡ true) rules r.0 hold.between r.1)) ∙ r.2) in
          let end = near_end r.0 in
          let in_from = among_contains from end (near_held r.0 r.1 ∙ both.0) in
          let le = All-contains (λ value. value ≤ table.policy.symbols.types.nprim) from end within in_from in
          let under = keeps (λ n. near_end n == end) rules r.0 r.1 (eq-eqb end end refl) in
          let among = any_from (test (far_end r.0)) from end in_from (rows_say end (far_end r.0) le ∙ any_from (λ number. far_end number == far_end r.0) (rules_under table.policy table.near rules end) r.0 under (eq-eqb (far_end r.0) (far_end r.0) refl)) in
          any_from (λ end. holds_type table.policy end other) ends (far_end r.0) (among_contains ends (far_end r.0) (say (far_end r.0) ∙ among)) both.1

  pub others_are : (ends : List ℕ) → ((value : ℕ) → is_among ends value ≡ is_far_end table.rows from value)
      → filter (λ type. list_any (λ end. holds_type table.policy end type) ends) (range_with_len 1 table.policy.symbols.types.nprim) ≡ others_of table.near table.policy rules node
  unfolding targets_from sources_to
  others_are ends say =
      filter_agree (λ type. list_any (λ end. holds_type table.policy end type) ends) (λ type. list_any (joins_by table.near table.policy node type) rules) (range_with_len 1 table.policy.symbols.types.nprim)
      (λ k d lt. far_hold (get_or (range_with_len 1 table.policy.symbols.types.nprim) k d) ends say)
      ∙ by_near table.near
    where
      by_near : (near : RuleEnd) → filter (λ type. list_any (joins_by near table.policy node type) rules) (range_with_len 1 table.policy.symbols.types.nprim) ≡ others_of near table.policy rules node
      by_near Source = refl
      by_near Target = refl

-- what a table answers, whichever rules it holds
pub found_joins : {E : Type 0} (bytes : List ℕ) (table : RulesByEnd) (node other : ℕ) (from to : List ℕ) (result : Result (Vec ℕ) E) → accept bytes ≡ Ok table.policy → ((value : ℕ) → IsEnd table.policy value → has_rows table.rows value ≡ true → is_among from value ≡ holds_type table.policy value node)
    → All (λ value. value ≤ table.policy.symbols.types.nprim) from → AreApart from → ((value : ℕ) → IsEnd table.policy value → is_among to value ≡ holds_type table.policy value other) → IfOk result (λ found. IsPermutation found.items (rules_joining table.rows from to))
    → IfOk result (λ found. (rules : List ℕ) → HoldRules table rules → IsPermutation found.items (filter (joins_by table.near table.policy node other) rules))
found_joins bytes table node other from to (Ok found) accepted each within apart held same = λ rules hold. joining_is bytes table rules accepted hold node from each within other to found.items apart held same
found_joins bytes table node other from to (Err e) accepted each within apart held same = tt

pub found_others : {E : Type 0} (bytes : List ℕ) (table : RulesByEnd) (node : ℕ) (from ends : List ℕ) (result : Result (List Node) E) → accept bytes ≡ Ok table.policy → ((value : ℕ) → IsEnd table.policy value → has_rows table.rows value ≡ true → is_among from value ≡ holds_type table.policy value node)
    → All (λ value. value ≤ table.policy.symbols.types.nprim) from → ((value : ℕ) → is_among ends value ≡ is_far_end table.rows from value) → IfOk result (λ (set : List Node). bits_of set ≡ filter (λ type. list_any (λ end. holds_type table.policy end type) ends) (range_with_len 1 table.policy.symbols.types.nprim))
    → IfOk result (λ (set : List Node). (rules : List ℕ) → HoldRules table rules → bits_of set ≡ others_of table.near table.policy rules node)
found_others bytes table node from ends (Ok set) accepted each within say is = λ rules hold. is ∙ others_are bytes table rules accepted hold node from each within ends say
found_others bytes table node from ends (Err e) accepted each within say is = tt

-- other ends of rows are ends
pub far_are_ends : (policy : Parts) (rows : List (List RuleRow)) (from ends : List ℕ) → AreFarEnds policy rows → ((value : ℕ) → is_among ends value ≡ is_far_end rows from value) → All (IsEnd policy) ends
far_are_ends policy rows from ends are say = All-from_get_or (IsEnd policy) ends 0 λ k lt.
    let v = get_or ends k 0 in
    let f = any_gives (λ end. list_any (λ (row : RuleRow). row.far == v) (rows_under rows end)) from (sym (say v) ∙ contains_among ends v (Contains-get_or ends k 0 lt)) in
    let g = any_gives (λ (row : RuleRow). row.far == v) (rows_under rows f.0) f.2 in
    subst (IsEnd policy) (eqb-true g.0.far v g.2) (All-contains (λ (row : RuleRow). IsEnd policy row.far) (rows_under rows f.0) g.0 (are f.0) g.1)

-- ---- one end more

pub joining_more : (rows : List (List RuleRow)) (from to : List ℕ) (i : ℕ) (old new : List ℕ) → i < length from → IsPermutation old (rules_joining rows (take i from) to) → IsPermutation new (old ++ rules_to to (rows_under rows (get_or from i 0)))
    → IsPermutation new (rules_joining rows (take (i + 1) from) to)
joining_more rows from to i old new lt so_far added =
    let f = λ (end : ℕ). rules_to to (rows_under rows end) in
    let end = get_or from i 0 in
    let more : flat_map f (take i from) ++ f end ≡ flat_map f (take (i + 1) from) =
    sym (ap (flat_map f) (take_more from i 0 lt) ∙ flat_map-append f (take i from) (end ∷ []) ∙ ap (λ (xs : List ℕ). flat_map f (take i from) ++ xs) (append-nil (f end))) in
    subst (IsPermutation new) more
    (IsPermutation-trans new (old ++ f end) (flat_map f (take i from) ++ f end) added (IsPermutation-append_left (f end) old (flat_map f (take i from)) so_far))
