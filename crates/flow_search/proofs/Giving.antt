-- The rules of a flow, found one way and the other.
use Rattle.std.proofs.Common.{◌≡◌, ◌⊎◌, inl, inr, ℕ, ◌<◌, ◌≤◌, List, [], ◌∷◌, ◌++◌, length, Bool, true, false, ◌&&◌, cond, sym, ◌∙◌, subst, slice_index_or, arith}
use Rattle.std.specs.List.{Contains, filter, fold, range_with_len}
use Rattle.std.proofs.lemmas.Bool.{and_from, and_parts, or_cases, or_left, or_right}
use Rattle.std.proofs.lemmas.List.Elements.{All-filter, Contains-append_cases, Contains-append_left, Contains-append_right}
use Rattle.std.proofs.lemmas.List.Kept.{IsStrictlyIncreasing-filter}
use Rattle.std.proofs.lemmas.List.Sorted.{Contains-permutation, IsPermutation-sym}
use Rattle.std.proofs.lemmas.List.FromFn.{get_or-range_with_len, length-range_with_len}
use Rattle.pol_file.specs.declared.Parts.{Parts}
use Rattle.counted_rules.specs.CountedRules.{Counted}
use Rattle.pol_expand.proofs.Values.{filter_rises}
use Rattle.pol_read.specs.StoredRules.{stored_rules}
use Rattle.walk_enum.proofs.Ascending.{ascends_from_increasing, same_numbers}
use Rattle.walk_enum.proofs.Elements.{from_filter, in_cases, in_filter, in_first, in_rest, not_in_nothing, passes_filter}
use Rattle.rule_order.specs.ListedOrder.{AreRules, in_rule_order, is_listed_before, ordered_by, with_number}
use Rattle.pol_expand.specs.JoinedTypes.{joins}
use Rattle.rules_by_end.specs.RulesByEnd.{AreRulesBetween, HoldRules, RulesByEnd}
use Rattle.perm_map.specs.declared.Direction.{Direction}
use Rattle.perm_map.specs.PermissionMap.{Weights}
use Rattle.flow_search.specs.FlowWeights.{inwards, outwards}
use Rattle.flow_search.specs.Flows.{counted_numbers, gives_least, is_counted}
use Rattle.flow_search.specs.Inner.FlowParts.{AreDistinct, AreFlowRules, reaches, rules_reaching}
use Rattle.flow_search.proofs.ReachedWeights.{given_reaches}

-- ---- an order keeps the numbers

module _ (before : ℕ → ℕ → Bool) where
  put_in : (x : ℕ) (ys : List ℕ) (n : ℕ) → Contains (with_number before x ys) n → (x ≡ n) ⊎ Contains ys n
  put_in x [] n h = in_cases x [] n h
  put_in x (y ∷ ys) n h = by (before y x) (put_in x ys n) h
    where
      by : (test : Bool) → (Contains (with_number before x ys) n → (x ≡ n) ⊎ Contains ys n) → Contains (cond test (y ∷ with_number before x ys) (x ∷ y ∷ ys)) n → (x ≡ n) ⊎ Contains (y ∷ ys) n
      by true rest h = elim (in_cases y (with_number before x ys) n h) [
        | inl first ↦ inr (subst (Contains (y ∷ ys)) first (in_first y ys))
        | inr later ↦ elim (rest later) [ inl same ↦ inl same | inr there ↦ inr (in_rest y ys n there) ]
      ]
      by false rest h = in_cases x (y ∷ ys) n h

  put_first : (x : ℕ) (ys : List ℕ) → Contains (with_number before x ys) x
  put_first x [] = in_first x []
  put_first x (y ∷ ys) = by (before y x) (put_first x ys)
    where
      by : (test : Bool) → Contains (with_number before x ys) x → Contains (cond test (y ∷ with_number before x ys) (x ∷ y ∷ ys)) x
      by true rest = in_rest y (with_number before x ys) x rest
      by false rest = in_first x (y ∷ ys)

  put_keeps : (x : ℕ) (ys : List ℕ) (n : ℕ) → Contains ys n → Contains (with_number before x ys) n
  put_keeps x [] n h = not_in_nothing n h
  put_keeps x (y ∷ ys) n h = by (before y x) (put_keeps x ys n) (in_cases y ys n h)
    where
      by : (test : Bool) → (Contains ys n → Contains (with_number before x ys) n) → (y ≡ n) ⊎ Contains ys n → Contains (cond test (y ∷ with_number before x ys) (x ∷ y ∷ ys)) n
      by true rest (inl first) = subst (Contains (y ∷ with_number before x ys)) first (in_first y (with_number before x ys))
      by true rest (inr later) = in_rest y (with_number before x ys) n (rest later)
      by false rest (inl first) = in_rest x (y ∷ ys) n (subst (Contains (y ∷ ys)) first (in_first y ys))
      by false rest (inr later) = in_rest x (y ∷ ys) n (in_rest y ys n later)

  abbrev sorted_onto : List ℕ → List ℕ → List ℕ
  sorted_onto done xs = fold (λ sorted number. with_number before number sorted) done xs

  from_sorted : (done xs : List ℕ) (n : ℕ) → Contains (sorted_onto done xs) n → Contains done n ⊎ Contains xs n
  from_sorted done [] n h = inl h
  from_sorted done (x ∷ xs) n h = elim (from_sorted (with_number before x done) xs n h) [
    | inl put ↦ elim (put_in x done n put) [ inl same ↦ inr (subst (Contains (x ∷ xs)) same (in_first x xs)) | inr old ↦ inl old ]
    | inr later ↦ inr (in_rest x xs n later)
  ]

  keeps_done : (done xs : List ℕ) (n : ℕ) → Contains done n → Contains (sorted_onto done xs) n
  keeps_done done [] n h = h
  keeps_done done (x ∷ xs) n h = keeps_done (with_number before x done) xs n (put_keeps x done n h)

  to_sorted : (done xs : List ℕ) (n : ℕ) → Contains xs n → Contains (sorted_onto done xs) n
  to_sorted done [] n h = not_in_nothing n h
  to_sorted done (x ∷ xs) n h = elim (in_cases x xs n h) [
    | inl first ↦ keeps_done (with_number before x done) xs n (subst (Contains (with_number before x done)) first (put_first x done))
    | inr later ↦ to_sorted (with_number before x done) xs n later
  ]

pub from_order : (policy : Parts) (xs : List ℕ) (n : ℕ) → Contains (in_rule_order policy xs) n → Contains xs n
unfolding ordered_by
from_order policy xs n h = elim (from_sorted (is_listed_before policy) [] xs n h) [ inl none ↦ not_in_nothing n none | inr there ↦ there ]

pub to_order : (policy : Parts) (xs : List ℕ) (n : ℕ) → Contains xs n → Contains (in_rule_order policy xs) n
unfolding ordered_by
to_order policy xs n h = to_sorted (is_listed_before policy) [] xs n h

-- ---- rules between two types that reach a weight

module _ (weights : Weights) (rules : Counted) (least : ℕ) (way : Direction → ℕ → ℕ) (source target : ℕ) where
  from_between : (n : ℕ) → Contains (filter (joins rules.policy source target) (rules_reaching way weights rules least)) n → Contains (counted_numbers rules) n × ((joins rules.policy source target n && reaches way weights rules.policy least n) ≡ true)
  unfolding rules_reaching
  from_between n found =
      let reaching = from_filter (joins rules.policy source target) (filter (reaches way weights rules.policy least) (counted_numbers rules)) n found in (
        from_filter (reaches way weights rules.policy least) (counted_numbers rules) n reaching,
        and_from (joins rules.policy source target n) (reaches way weights rules.policy least n)
            (passes_filter (joins rules.policy source target) (filter (reaches way weights rules.policy least) (counted_numbers rules)) n found)
            (passes_filter (reaches way weights rules.policy least) (counted_numbers rules) n reaching),
      )

  to_between : (n : ℕ) → Contains (counted_numbers rules) n → (joins rules.policy source target n && reaches way weights rules.policy least n) ≡ true → Contains (filter (joins rules.policy source target) (rules_reaching way weights rules least)) n
  unfolding rules_reaching
  to_between n there passes =
      let parts = and_parts (joins rules.policy source target n) (reaches way weights rules.policy least n) passes in
      in_filter (joins rules.policy source target) (filter (reaches way weights rules.policy least) (counted_numbers rules)) n parts.0
      (in_filter (reaches way weights rules.policy least) (counted_numbers rules) n parts.1 there)

joined_cases : (xs ys : List ℕ) (n : ℕ) → Contains xs n ⊎ Contains ys n → Contains (xs ++ ys) n
joined_cases xs ys n (inl h) = Contains-append_left xs ys n h
joined_cases xs ys n (inr h) = Contains-append_right xs ys n h

-- The rules found one way and the other, each once, are those that give the flow.
module _ (weights : Weights) (rules : Counted) (least from to : ℕ) (some : 1 ≤ least) (ahead back found : List ℕ) (ahead_are : AreRulesBetween rules.policy (rules_reaching outwards weights rules least) from to ahead) (back_are : AreRulesBetween rules.policy (rules_reaching inwards weights rules least) to from back) (distinct : AreDistinct (ahead ++ back) found) where
  abbrev gives : ℕ → Bool
  gives = gives_least weights rules.policy least from to

  abbrev out_at : ℕ → Bool
  out_at n = joins rules.policy from to n && reaches outwards weights rules.policy least n

  abbrev into_at : ℕ → Bool
  into_at n = joins rules.policy to from n && reaches inwards weights rules.policy least n

  abbrev outs : List ℕ
  outs = filter (joins rules.policy from to) (rules_reaching outwards weights rules least)

  abbrev intos : List ℕ
  intos = filter (joins rules.policy to from) (rules_reaching inwards weights rules least)

  found_gives : (n : ℕ) → Contains ahead n ⊎ Contains back n → Contains (filter gives (counted_numbers rules)) n
  found_gives n (inl h) =
      let parts = from_between weights rules least outwards from to n (Contains-permutation ahead outs n ahead_are h) in
      in_filter gives (counted_numbers rules) n (given_reaches weights rules.policy least from to n some ∙ or_left (out_at n) (into_at n) parts.1) parts.0
  found_gives n (inr h) =
      let parts = from_between weights rules least inwards to from n (Contains-permutation back intos n back_are h) in
      in_filter gives (counted_numbers rules) n (given_reaches weights rules.policy least from to n some ∙ or_right (out_at n) (into_at n) parts.1) parts.0

  gives_found : (n : ℕ) → Contains (filter gives (counted_numbers rules)) n → Contains ahead n ⊎ Contains back n
  gives_found n h =
      let passes = passes_filter gives (counted_numbers rules) n h in
      let there = from_filter gives (counted_numbers rules) n h in
      elim (or_cases (out_at n) (into_at n) (sym (given_reaches weights rules.policy least from to n some) ∙ passes)) [
        | inl out ↦ inl (Contains-permutation outs ahead n (IsPermutation-sym ahead outs ahead_are) (to_between weights rules least outwards from to n there out))
        | inr into ↦ inr (Contains-permutation intos back n (IsPermutation-sym back intos back_are) (to_between weights rules least inwards to from n there into))
      ]

  pub giving_is : found ≡ filter gives (counted_numbers rules)
  giving_is =
      same_numbers found (filter gives (counted_numbers rules)) (ascends_from_increasing found distinct.rise) (ascends_from_increasing (filter gives (counted_numbers rules)) (IsStrictlyIncreasing-filter gives (counted_numbers rules) (filter_rises (is_counted rules) 0 (length (stored_rules rules.policy)))))
      (λ n h. found_gives n (Contains-append_cases ahead back n ((distinct.each n).0 h)))
      (λ n h. (distinct.each n).1 (joined_cases ahead back n (gives_found n h)))

-- by what a graph keeps
pub rules_give : (weights : Weights) (rules : Counted) (least from to : ℕ) (reverse : Bool) (out into : RulesByEnd) → 1 ≤ least → AreFlowRules weights rules least reverse out into → (ahead back found : List ℕ) → ((numbers : List ℕ) → HoldRules out numbers → AreRulesBetween out.policy numbers from to ahead)
    → ((numbers : List ℕ) → HoldRules into numbers → AreRulesBetween into.policy numbers to from back) → AreDistinct (ahead ++ back) found → found ≡ filter (gives_least weights rules.policy least from to) (counted_numbers rules)
rules_give weights rules least from to reverse out into some are ahead back found ahead_are back_are distinct =
    giving_is weights rules least from to some ahead back found
    (subst (λ (p : Parts). AreRulesBetween p (rules_reaching outwards weights rules least) from to ahead) are.out_policy (ahead_are (rules_reaching outwards weights rules least) are.out_rules))
    (subst (λ (p : Parts). AreRulesBetween p (rules_reaching inwards weights rules least) to from back) are.into_policy (back_are (rules_reaching inwards weights rules least) are.into_rules))
    distinct

pub numbers_are_rules : (rules : Counted) (p : ℕ → Bool) (found : List ℕ) → found ≡ filter p (counted_numbers rules) → AreRules rules.policy found
numbers_are_rules rules p found is =
    let numbers = range_with_len 0 (length (stored_rules rules.policy)) in
    let counted : AreRules rules.policy (counted_numbers rules) = All-filter (is_counted rules) (λ number. number < length (stored_rules rules.policy)) numbers (λ k d lt. below k d lt) in
    subst (AreRules rules.policy) (sym is) (All-filter p (λ number. number < length (stored_rules rules.policy)) (counted_numbers rules) counted)
  where
    below : (k d : ℕ) → k < length (range_with_len 0 (length (stored_rules rules.policy))) → slice_index_or (range_with_len 0 (length (stored_rules rules.policy))) k d < length (stored_rules rules.policy)
    below k d lt =
        let many = length-range_with_len 0 (length (stored_rules rules.policy)) in
        let small : k < length (stored_rules rules.policy) = omega (arith, many, lt) in
        omega (arith, get_or-range_with_len 0 (length (stored_rules rules.policy)) k d small, small)
