-- The flows by the enabled rules of a policy are those of the policy that has no others.
use Rattle.std.proofs.Common.{◌≡◌, ℕ, suc, ◌+◌, max, List, [], ◌∷◌, length, map, Option, Some, slice_get, Bool, true, false, cond, refl, sym, ap, ◌∙◌, arith}
use Rattle.std.specs.List.{filter, range_with_len}
use Rattle.pol_file.specs.declared.Parts.{Parts}
use Rattle.pol_read.specs.StoredRules.{StoredRule, stored_rules}
use Rattle.bool_state.specs.BooleanStates.{Booleans}
use Rattle.counted_rules.specs.CountedRules.{Counted, all_rules, counts, rules_under}
use Rattle.counted_rules.specs.EnabledPolicy.{enabled_policy}
use Rattle.counted_rules.proofs.OnlyEnabled.{enabled_rules}
use Rattle.pol_expand.specs.JoinedTypes.{holds_type, is_rule_from_to, joins, passes}
use Rattle.pol_expand.specs.PolicyMap.{expand}
use Rattle.pol_expand.specs.PlainTypes.{are_two_types}
use Rattle.perm_map.specs.PermissionMap.{Weights}
use Rattle.flow_search.specs.FlowWeights.{greatest, inwards, outwards}
use Rattle.flow_search.specs.Flows.{counted_numbers, flow_weight, given_by, weight_found, weight_of_rule}

-- ---- numbers of the elements that pass a test

-- what is made of each is what is made of the elements themselves
of_numbers : {X : Type 0} (f : Option StoredRule → X) (p : StoredRule → Bool) (at : ℕ → Option StoredRule) (xs : List StoredRule) (a : ℕ) → ((k : ℕ) → at (a + k) ≡ slice_get xs k) → map (λ n. f (at n)) (filter (λ n. passes p (at n)) (range_with_len a (length xs))) ≡ map (λ rule. f (Some rule)) (filter p xs)
of_numbers f p at [] a h = refl
of_numbers {X = X} f p at (x ∷ xs) a h =
    ap (λ (found : Option StoredRule). map (λ n. f (at n)) (cond (passes p found) (a ∷ kept) kept)) first
    ∙ by (p x) (of_numbers f p at xs (a + 1) (λ k. ap at (shift a k) ∙ h (suc k)))
  where
    start : (n : ℕ) → n ≡ n + 0
    start n = omega arith

    shift : (n k : ℕ) → n + 1 + k ≡ n + suc k
    shift n k = omega arith

    first : at a ≡ Some x
    first = ap at (start a) ∙ h 0

    kept : List ℕ
    kept = filter (λ n. passes p (at n)) (range_with_len (a + 1) (length xs))

    by : (test : Bool) → map (λ n. f (at n)) kept ≡ map (λ rule. f (Some rule)) (filter p xs) → map (λ n. f (at n)) (cond test (a ∷ kept) kept) ≡ map (λ rule. f (Some rule)) (cond test (x ∷ filter p xs) (filter p xs))
    by true rest = ap (λ (found : Option StoredRule). f found ∷ map (λ n. f (at n)) kept) first ∙ ap (λ (ys : List X). f (Some x) ∷ ys) rest
    by false rest = rest

-- of the rules that count
of_counted : {X : Type 0} (f : Option StoredRule → X) (rules : Counted) → map (λ n. f (slice_get (stored_rules rules.policy) n)) (counted_numbers rules) ≡ map (λ rule. f (Some rule)) (filter (counts rules) (stored_rules rules.policy))
of_counted f rules = of_numbers f (counts rules) (slice_get (stored_rules rules.policy)) (stored_rules rules.policy) 0 (λ k. ap (slice_get (stored_rules rules.policy)) (first k))
  where
    first : (k : ℕ) → 0 + k ≡ k
    first k = omega arith

all_kept : (xs : List StoredRule) → filter (λ rule. true) xs ≡ xs
all_kept [] = refl
all_kept (x ∷ xs) = ap (λ (ys : List StoredRule). x ∷ ys) (all_kept xs)

-- the enabled rules are all those of a policy, whatever is made of each
pub of_enabled : {X : Type 0} (f : Option StoredRule → X) (policy : Parts) (on : Booleans) → map (λ n. f (slice_get (stored_rules policy) n)) (counted_numbers (rules_under policy on)) ≡ map (λ n. f (slice_get (stored_rules (enabled_policy policy on)) n)) (counted_numbers (all_rules (enabled_policy policy on)))
of_enabled f policy on =
    let only = enabled_policy policy on in
    of_counted f (rules_under policy on) ∙ ap (map (λ rule. f (Some rule))) (enabled_rules policy on ∙ sym (all_kept (stored_rules only))) ∙ sym (of_counted f (all_rules only))

-- ---- what they give

-- what a rule that was found gives
abbrev pub found_gives : Weights → Parts → ℕ → ℕ → Option StoredRule → ℕ
found_gives weights policy from to found =
    max (cond (passes (is_rule_from_to policy from to) found) (weight_found outwards weights policy found) 0)
    (cond (passes (is_rule_from_to policy to from) found) (weight_found inwards weights policy found) 0)

pub given_is : (weights : Weights) (policy : Parts) (from to : ℕ) → given_by weights policy from to ≡ (λ n. found_gives weights policy from to (slice_get (stored_rules policy) n))
unfolding given_by weight_of_rule joins
given_is weights policy from to = refl

-- it does not turn on what other rules there are
pub same_gives : (weights : Weights) (policy : Parts) (on : Booleans) (from to : ℕ) → found_gives weights policy from to ≡ found_gives weights (enabled_policy policy on) from to
unfolding holds_type expand
same_gives weights policy on from to = refl

pub enabled_weight : (weights : Weights) (policy : Parts) (on : Booleans) (from to : ℕ) → flow_weight weights (rules_under policy on) from to ≡ flow_weight weights (all_rules (enabled_policy policy on)) from to
unfolding flow_weight
enabled_weight weights policy on from to =
    let only = enabled_policy policy on in
    let gives = found_gives weights policy from to in
    ap (λ (given : List ℕ). cond (are_two_types policy from to) (greatest given) 0) (
    ap (λ (g : ℕ → ℕ). map g (counted_numbers (rules_under policy on))) (given_is weights policy from to)
    ∙ of_enabled gives policy on
    ∙ ap (λ (found : Option StoredRule → ℕ). map (λ n. found (slice_get (stored_rules only) n)) (counted_numbers (all_rules only))) (same_gives weights policy on from to)
    ∙ sym (ap (λ (g : ℕ → ℕ). map g (counted_numbers (all_rules only))) (given_is weights only from to)))
