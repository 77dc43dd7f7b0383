-- What is answered of a map that was read, by the rules that count.
use Rattle.std.proofs.Common.{◌≡◌, ◌∙◌, ℕ, List, Result, Ok, sym, ap, subst}
use Rattle.pol_file.specs.declared.Parts.{Parts}
use Rattle.counted_rules.specs.CountedRules.{Counted}
use Rattle.perm_map.specs.declared.MapFault.{MapFault}
use Rattle.perm_map.specs.PermissionMap.{Entry, Weights, map_of, weights_of}
use Rattle.se_outside.specs.Outside.{SinkState}
use Rattle.se_status.specs.declared.Status.{Status}
use Rattle.se_status.specs.Conclusion.{Concludes}
use Rattle.se_walks.specs.GraphAnswer.{graph_answer, graph_text}
use Rattle.se_walks.proofs.AskedRules.{policy-asked}
use Rattle.se_options.specs.FlowRequest.{FlowAsks}
use Rattle.se_flow.specs.FlowAnswer.{flow_answer, flow_graph, is_flow_of, mapped_answer, rules_of}
use Rattle.se_flow.specs.FlowTexts.{flow_words}

pub map-answered : (asks : FlowAsks) (policy : Parts) (bytes : List ℕ) (kept entries : List Entry) (old new : SinkState) (status : Status) → map_of bytes ≡ Ok entries → weights_of kept ≡ weights_of entries
    → Concludes (graph_answer (flow_words (weights_of kept) (rules_of asks policy) asks.least) (is_flow_of asks (rules_of asks policy) (weights_of kept)) (flow_graph asks) policy) old new status → Concludes (flow_answer asks policy bytes) old new status
unfolding flow_answer
map-answered asks policy bytes kept entries old new status is same concludes =
    let P : Weights → Type 0 = λ weights. Concludes (graph_answer (flow_words weights (rules_of asks policy) asks.least) (is_flow_of asks (rules_of asks policy) weights) (flow_graph asks) policy) old new status in
    let R : Result (List Entry) MapFault → Type 0 = λ read. Concludes (mapped_answer asks policy read) old new status in
    subst R (sym is) (subst P same concludes)

-- what is written by them is what is answered
pub text-asked : (asks : FlowAsks) (policy : Parts) (weights : Weights) (rules : Counted) → rules ≡ rules_of asks policy
    → graph_text (flow_words weights rules asks.least) (is_flow_of asks rules weights) (flow_graph asks) rules.policy ≡ graph_text (flow_words weights (rules_of asks policy) asks.least) (is_flow_of asks (rules_of asks policy) weights) (flow_graph asks) policy
text-asked asks policy weights rules are =
    let own = rules_of asks policy in
    ap (λ (rules : Counted). graph_text (flow_words weights rules asks.least) (is_flow_of asks rules weights) (flow_graph asks) rules.policy) are
    ∙ ap (graph_text (flow_words weights own asks.least) (is_flow_of asks own weights) (flow_graph asks)) (policy-asked policy asks.states)
