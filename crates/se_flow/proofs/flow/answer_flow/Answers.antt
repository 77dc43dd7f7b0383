use Rattle.std.proofs.Common.{◌∙◌, sym}
use Rattle.perm_map.specs.PermissionMap.{weights_of}
use Rattle.se_options.specs.FlowRequest.{flow_view}
use Rattle.se_walks.proofs.AskedTypes.{none-unknown}
use Rattle.se_walks.proofs.GraphAnswered.{graph_written}
use Rattle.se_flow.specs.FlowAnswer.{flow_graph, is_flow_of, rules_of}
use Rattle.se_flow.specs.FlowTexts.{flow_words}
use Rattle.se_flow.proofs.Answered.{map-answered}
use Rattle.se_flow.proofs.flow.answer_flow.Goals as goal

pub returns-clause-answers : goal.returns-clause-answers
returns-clause-answers g c =
    let asks = flow_view c.args.asks.now in
    let policy = c.args.policy.now in
    let read = c.in-Ok.ensures in
    map-answered asks policy c.args.bytes.now c.in-Ok.map read.0 _ _ _ read.1 read.2
    (graph_written (flow_words (weights_of c.in-Ok.map) (rules_of asks policy) asks.least) (is_flow_of asks (rules_of asks policy) (weights_of c.in-Ok.map)) (flow_graph asks) policy _ _ _
    (none-unknown policy asks.source asks.target asks.states c.args.asks.now.excluded.items c.deref.result.now c.deref.ensures.value (sym c.first_unknown.ensures ∙ c.in-None.is))
    (c.status_written.ensures.concludes _ _ _ c.write_asked.ensures))
