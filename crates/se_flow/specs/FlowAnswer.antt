-- The answer of seinfoflow about a policy that was accepted, and the bytes of a permission map.
use Rattle.std.specs.Prelude.{ℕ, Bool, nat_le, List, Result, Ok, Err, ⊤}
use Rattle.pol_file.specs.declared.Parts.{Parts}
use Rattle.counted_rules.specs.CountedRules.{Counted}
use Rattle.perm_map.specs.PermissionMap.{Entry, Weights, map_of, weights_of}
use Rattle.perm_map.specs.declared.MapFault.{MapFault}
use Rattle.flow_search.specs.Flows.{flow_weight}
use Rattle.se_status.specs.declared.Status.{Status}
use Rattle.se_status.specs.declared.Status.TheVariants.{Done, BadMap, UnknownName, WriteFault, Memory}
use Rattle.se_status.specs.Conclusion.{Answer, refusal}
use Rattle.se_walks.specs.GraphAnswer.{GraphAsks, graph_answer, rules_in}
use Rattle.se_options.specs.FlowRequest.{FlowAsks}
use Rattle.se_flow.specs.FlowTexts.{flow_words}

-- a flow of at least the weight that is asked for, by the rules that count
abbrev pub is_flow_of : FlowAsks → Counted → Weights → ℕ → ℕ → Bool
is_flow_of asks rules weights a b = nat_le asks.least (flow_weight weights rules a b)

-- what is asked of the graph of such flows
abbrev pub flow_graph : FlowAsks → GraphAsks
flow_graph asks = record {
  source = asks.source;
  target = asks.target;
  all = asks.all;
  reverse = asks.reverse;
  states = asks.states;
  excluded = asks.excluded;
  from = asks.from;
  limit = asks.limit;
}

-- the rules that count: all of them, or those that are enabled under the states that are stated
abbrev pub rules_of : FlowAsks → Parts → Counted
rules_of asks policy = rules_in (flow_graph asks) policy

-- the flows of the source, or the walks of flows to the target, under a map, unless a word names no type or no boolean; and a map that is refused
abbrev pub mapped_answer : FlowAsks → Parts → Result (List Entry) MapFault → Answer
mapped_answer asks policy (Ok entries) =
    graph_answer (flow_words (weights_of entries) (rules_of asks policy) asks.least) (is_flow_of asks (rules_of asks policy) (weights_of entries)) (flow_graph asks) policy
mapped_answer asks policy (Err fault) = refusal (BadMap fault)

unfoldable pub flow_answer : FlowAsks → Parts → List ℕ → Answer
flow_answer asks policy bytes = mapped_answer asks policy (map_of bytes)

-- What a map that was read ends with: its own fault, or a name of the words that is refused.
abbrev pub IsOfMap : Status → Type 0
IsOfMap Done = ⊤
IsOfMap (BadMap fault) = ⊤
IsOfMap (UnknownName word) = ⊤
IsOfMap WriteFault = ⊤
IsOfMap Memory = ⊤
IsOfMap status = ⊥
