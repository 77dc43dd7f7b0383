-- What a graph of flows keeps: the rules that flow at least the weight, each way. It serves the code alone.
use Rattle.std.specs.Prelude.{◌≡◌, ◌↔◌, ℕ, ◌≤◌, Bool, true, ◌||◌, nat_le, List, ◌&&◌, ◌==◌, not, Contains, if◌then◌else◌}
use Rattle.std.specs.List.{filter}
use Rattle.std.specs.List.Sorted.{IsStrictlyIncreasing}
use Rattle.pol_file.specs.declared.Parts.{Parts}
use Rattle.counted_rules.specs.CountedRules.{Counted}
use Rattle.rules_by_end.specs.declared.RuleEnd.{RuleEnd}
use Rattle.rules_by_end.specs.declared.RuleEnd.TheVariants.{Source, Target}
use Rattle.pol_expand.specs.JoinedTypes.{any_joins}
use Rattle.rules_by_end.specs.RulesByEnd.{HoldRules, RulesByEnd, other_end}
use Rattle.pol_expand.specs.PlainTypes.{is_type_outside}
use Rattle.perm_map.specs.declared.Direction.{Direction}
use Rattle.perm_map.specs.PermissionMap.{Weights, weights_of}
use Rattle.flow_search.specs.FlowWeights.{inwards, outwards}
use Rattle.flow_search.specs.FlowEdges.{FlowSearch}
use Rattle.flow_search.specs.Flows.{counted_numbers, weight_of_rule}

abbrev pub reaches : (Direction → ℕ → ℕ) → Weights → Parts → ℕ → ℕ → Bool
reaches way weights policy least number = nat_le least (weight_of_rule way weights policy number)

-- the rules that count and flow one way at least a weight, rising
unfoldable pub rules_reaching : (Direction → ℕ → ℕ) → Weights → Counted → ℕ → List ℕ
rules_reaching way weights rules least = filter (reaches way weights rules.policy least) (counted_numbers rules)

-- the end at which an edge begins, of a rule that flows from its source to its target
abbrev pub first_end : Bool → RuleEnd
first_end reverse = if reverse then Target else Source

-- The rules of each way stand under that end, and those of the other way under the other end.
pub record AreFlowRules (weights : Weights) (rules : Counted) (least : ℕ) (reverse : Bool) (out into : RulesByEnd) : Type 0 where
  pub out_policy : out.policy ≡ rules.policy
  pub out_near : out.near ≡ first_end reverse
  pub out_rules : HoldRules out (rules_reaching outwards weights rules least)
  pub into_policy : into.policy ≡ rules.policy
  pub into_near : into.near ≡ other_end (first_end reverse)
  pub into_rules : HoldRules into (rules_reaching inwards weights rules least)

-- ---- the successors of a node

-- some rule that counts gives a flow of at least the weight from a value to a value
unfoldable pub any_flow : Weights → Counted → ℕ → ℕ → ℕ → Bool
any_flow weights rules least from to =
    any_joins rules.policy (rules_reaching outwards weights rules least) from to || any_joins rules.policy (rules_reaching inwards weights rules least) to from

-- a flow from or to a node, as the graph is turned
unfoldable pub any_edge : FlowSearch → ℕ → ℕ → Bool
any_edge search node other =
    if search.reverse then any_flow (weights_of search.entries) search.rules search.least other node
    else any_flow (weights_of search.entries) search.rules search.least node other

-- the type values that pass a test
pub record AreJoined (policy : Parts) (test : ℕ → Bool) (found : List ℕ) : Type 0 where
  pub each : (value : ℕ) → Contains found value ↔ ((1 ≤ value) × (value ≤ policy.symbols.types.nprim) × (test value ≡ true))

-- a type that is not excluded
abbrev pub is_open : FlowSearch → ℕ → Bool
is_open search node = is_type_outside search.rules.policy search.excluded node

-- the open types among some types
pub record IsOpenPart (search : FlowSearch) (types part : List ℕ) : Type 0 where
  pub each : (value : ℕ) → Contains part value ↔ (Contains types value × (is_open search value ≡ true))

-- a successor among the joined
abbrev pub is_successor : FlowSearch → ℕ → ℕ → Bool
is_successor search node other = not (other == node) && is_open search other

-- ---- the rules of a flow

-- rising numbers, those of some
pub record AreDistinct (some rising : List ℕ) : Type 0 where
  pub rise : IsStrictlyIncreasing rising
  pub each : (number : ℕ) → Contains rising number ↔ Contains some number
