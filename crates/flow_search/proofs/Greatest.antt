-- The greatest that some rules give is the greatest of all, where these are all that give so much.
use Rattle.std.proofs.Common.{◌≡◌, ℕ, zero, suc, ◌<◌, ◌≤◌, List, [], ◌∷◌, length, map, Bool, true, false, cond, eqb, leb, take, refl, sym, ap, ◌∙◌, subst, arith}
use Rattle.std.specs.List.{Contains, filter, range_with_len}
use Rattle.std.proofs.lemmas.Bool.{le-leb, leb-true}
use Rattle.std.proofs.lemmas.List.{take_all}
use Rattle.counted_rules.specs.CountedRules.{Counted}
use Rattle.walk_enum.proofs.Elements.{from_filter, in_filter, in_first, not_in_nothing, passes_filter, range_high}
use Rattle.pol_read.specs.StoredRules.{stored_rules}
use Rattle.rule_order.specs.ListedOrder.{in_rule_order}
use Rattle.perm_map.specs.PermissionMap.{Weights}
use Rattle.flow_search.specs.FlowWeights.{greatest}
use Rattle.flow_search.specs.Flows.{counted_numbers, flow_rules, flow_weight, given_by, gives_least, is_counted}
use Rattle.flow_search.proofs.Giving.{from_order, to_order}
use Rattle.pol_expand.specs.PlainTypes.{are_two_types}
use Rattle.value_groups.proofs.Anys.{any_from, any_gives}
use Rattle.flow_search.proofs.ReachedWeights.{any_map, greatest_reaches}

-- a number that is given to one of some is at most the greatest
at_most : (g : ℕ → ℕ) (xs : List ℕ) (w x : ℕ) → 1 ≤ w → Contains xs x → leb w (g x) ≡ true → leb w (greatest (map g xs)) ≡ true
at_most g xs w x some there reaches = greatest_reaches w (map g xs) some ∙ any_map g (leb w) xs ∙ any_from (λ y. leb w (g y)) xs x there reaches

-- where the greatest reaches a number, one of them does
reached : (g : ℕ → ℕ) (xs : List ℕ) (w : ℕ) → 1 ≤ w → leb w (greatest (map g xs)) ≡ true → (x : ℕ) × Contains xs x × (leb w (g x) ≡ true)
reached g xs w some h = any_gives (λ y. leb w (g y)) xs (sym (greatest_reaches w (map g xs) some ∙ any_map g (leb w) xs) ∙ h)

-- the greatest of some numbers is at most that of others, where what reaches it is among them
below : (g : ℕ → ℕ) (xs ys : List ℕ) → ((x : ℕ) → 1 ≤ greatest (map g xs) → Contains xs x → leb (greatest (map g xs)) (g x) ≡ true → Contains ys x) → greatest (map g xs) ≤ greatest (map g ys)
below g xs ys within = by (greatest (map g xs)) refl
  where
    by : (w : ℕ) → greatest (map g xs) ≡ w → greatest (map g xs) ≤ greatest (map g ys)
    by zero is = omega (arith, is)
    by (suc n) is =
        let most = greatest (map g xs) in
        let some : 1 ≤ most = omega (arith, is) in
        let itself : leb most most ≡ true = le-leb most most (omega arith) in
        let at = reached g xs most some itself in
        leb-true most (greatest (map g ys)) (at_most g ys most at.0 some (within at.0 some at.1 at.2) at.2)

equal : (a b : ℕ) → a ≤ b → b ≤ a → a ≡ b
equal a b h k = omega arith

-- the rules that give a flow at least a weight, in their order, have the greatest weight of all, where there are any
given_greatest : (weights : Weights) (rules : Counted) (least from to number : ℕ) → 1 ≤ least → Contains (in_rule_order rules.policy (filter (gives_least weights rules.policy least from to) (counted_numbers rules))) number → greatest (map (given_by weights rules.policy from to) (in_rule_order rules.policy (filter (gives_least weights rules.policy least from to) (counted_numbers rules)))) ≡ greatest (map (given_by weights rules.policy from to) (counted_numbers rules))
given_greatest weights rules least from to number some there =
    let g = given_by weights rules.policy from to in
    let gives = gives_least weights rules.policy least from to in
    let numbers = counted_numbers rules in
    let listed = in_rule_order rules.policy (filter gives numbers) in
    let chosen = from_order rules.policy (filter gives numbers) number there in
    let high : leb least (greatest (map g numbers)) ≡ true = at_most g numbers least number some (from_filter gives numbers number chosen) (passes_filter gives numbers number chosen) in
    let least_high : least ≤ greatest (map g numbers) = leb-true least (greatest (map g numbers)) high in
    equal (greatest (map g listed)) (greatest (map g numbers))
    (below g listed numbers (λ x h has reaches. from_filter gives numbers x (from_order rules.policy (filter gives numbers) x has)))
    (below g numbers listed (λ x h has reaches. (
    let most : greatest (map g numbers) ≤ g x = leb-true (greatest (map g numbers)) (g x) reaches in
    let enough : leb least (g x) ≡ true = le-leb least (g x) (omega (arith, least_high, most)) in
    to_order rules.policy (filter gives numbers) x (in_filter gives numbers x enough has))))

chosen : (test : Bool) (g : ℕ → ℕ) (rules numbers : List ℕ) (number : ℕ) → Contains (cond test rules []) number → (Contains rules number → greatest (map g rules) ≡ greatest (map g numbers)) → greatest (map g (cond test rules [])) ≡ cond test (greatest (map g numbers)) 0
chosen true g rules numbers number there same = same there
chosen false g rules numbers number there same = not_in_nothing number there

-- the rules of a flow, where there are any, have its weight
pub weight_is : (weights : Weights) (rules : Counted) (least from to number : ℕ) → 1 ≤ least → Contains (flow_rules weights rules least from to) number → greatest (map (given_by weights rules.policy from to) (flow_rules weights rules least from to)) ≡ flow_weight weights rules from to
unfolding flow_rules flow_weight
weight_is weights rules least from to number some there =
    chosen (are_two_types rules.policy from to) (given_by weights rules.policy from to) (in_rule_order rules.policy (filter (gives_least weights rules.policy least from to) (counted_numbers rules))) (counted_numbers rules) number there
    (given_greatest weights rules least from to number some)

within_range : (n x : ℕ) → Contains (range_with_len 0 n) x → x < n
within_range n x h = let range = range_high 0 n x h in omega (arith, range.1)

stored_at : (test : Bool) (rules : Counted) (p : ℕ → Bool) (x : ℕ) → Contains (cond test (in_rule_order rules.policy (filter p (counted_numbers rules))) []) x → x < length (stored_rules rules.policy)
stored_at true rules p x h =
    let all = range_with_len 0 (length (stored_rules rules.policy)) in
    within_range (length (stored_rules rules.policy)) x (from_filter (is_counted rules) all x (from_filter p (counted_numbers rules) x (from_order rules.policy (filter p (counted_numbers rules)) x h)))
stored_at false rules p x h = not_in_nothing x h

-- each is the number of a stored rule
pub rule_is_stored : (weights : Weights) (rules : Counted) (least from to x : ℕ) → Contains (flow_rules weights rules least from to) x → x < length (stored_rules rules.policy)
unfolding flow_rules
rule_is_stored weights rules least from to x h = stored_at (are_two_types rules.policy from to) rules (gives_least weights rules.policy least from to) x h

-- what was given by each of the rules of a flow, where there are any
pub weight_done : (weights : Weights) (rules : Counted) (least from to : ℕ) (listed : List ℕ) (i weight : ℕ) → 1 ≤ least → listed ≡ flow_rules weights rules least from to → eqb (length listed) 0 ≡ false → length listed ≤ i → weight ≡ greatest (map (given_by weights rules.policy from to) (take i listed)) → weight ≡ flow_weight weights rules from to
weight_done weights rules least from to [] i weight some are filled past is = absurd cc
weight_done weights rules least from to (x ∷ xs) i weight some are filled past is =
    is ∙ ap (λ (listed : List ℕ). greatest (map (given_by weights rules.policy from to) listed)) (take_all i (x ∷ xs) past ∙ are)
    ∙ weight_is weights rules least from to x some (subst (λ (listed : List ℕ). Contains listed x) are (in_first x xs))
