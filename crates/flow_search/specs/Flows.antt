-- The flows between the types of a policy by those of its rules that count, by a permission map.
use Rattle.std.specs.Prelude.{ℕ, Bool, nat_le, max, Option, Some, None, List, [], length, map, slice_get, if◌then◌else◌}
use Rattle.std.specs.List.{filter, range_with_len}
use Rattle.pol_file.specs.declared.Parts.{Parts}
use Rattle.pol_read.specs.StoredRules.{StoredRule, stored_rules}
use Rattle.counted_rules.specs.CountedRules.{Counted, counts}
use Rattle.rule_order.specs.ListedOrder.{in_rule_order}
use Rattle.pol_expand.specs.JoinedTypes.{joins, rule_passes}
use Rattle.pol_expand.specs.PlainTypes.{are_two_types}
use Rattle.perm_map.specs.declared.Direction.{Direction}
use Rattle.perm_map.specs.PermissionMap.{Weights}
use Rattle.flow_search.specs.FlowWeights.{greatest, inwards, outwards, rule_weight}

-- ---- rules by their numbers

abbrev pub weight_found : (Direction → ℕ → ℕ) → Weights → Parts → Option StoredRule → ℕ
weight_found way weights policy None = 0
weight_found way weights policy (Some rule) = rule_weight way weights policy.symbols rule

-- one way of the stored rule of a number
unfoldable pub weight_of_rule : (Direction → ℕ → ℕ) → Weights → Parts → ℕ → ℕ
weight_of_rule way weights policy number = weight_found way weights policy (slice_get (stored_rules policy) number)

-- the stored rule of a number counts
abbrev pub is_counted : Counted → ℕ → Bool
is_counted rules number = rule_passes rules.policy (counts rules) number

-- the numbers of the rules that count, rising
abbrev pub counted_numbers : Counted → List ℕ
counted_numbers rules = filter (is_counted rules) (range_with_len 0 (length (stored_rules rules.policy)))

-- ---- flows

-- What a rule gives to the flow from a type to another: its way out where its ends expand to them in this order, and its way in where they
-- do in the other order. An attribute may be both ends of a rule, so that both may be.
unfoldable pub given_by : Weights → Parts → ℕ → ℕ → ℕ → ℕ
given_by weights policy from to number =
    max (if joins policy from to number then weight_of_rule outwards weights policy number else 0)
    (if joins policy to from number then weight_of_rule inwards weights policy number else 0)

-- the weight of the flow from a type to another: the greatest that a rule which counts gives; for any other two values it is 0
unfoldable pub flow_weight : Weights → Counted → ℕ → ℕ → ℕ
flow_weight weights rules from to =
    if are_two_types rules.policy from to then greatest (map (given_by weights rules.policy from to) (counted_numbers rules)) else 0

-- a rule gives a flow at least a weight
abbrev pub gives_least : Weights → Parts → ℕ → ℕ → ℕ → ℕ → Bool
gives_least weights policy least from to number = nat_le least (given_by weights policy from to number)

-- the rules that count and do, in the order in which rules are listed
unfoldable pub flow_rules : Weights → Counted → ℕ → ℕ → ℕ → List ℕ
flow_rules weights rules least from to =
    if are_two_types rules.policy from to then in_rule_order rules.policy (filter (gives_least weights rules.policy least from to) (counted_numbers rules)) else []
