use Rattle.std.proofs.Common.{◌∙◌, ap, sym}
use Rattle.pol_file.specs.declared.Parts.{Parts}
use Rattle.perm_map.specs.PermissionMap.{weights_of}
use Rattle.se_options.specs.FlowRequest.{flow_view}
use Rattle.se_walks.proofs.AskedTypes.{between_sent, no_ends_sent}
use Rattle.se_walks.specs.TypeNames.{ends_named}
use Rattle.se_flow.specs.FlowAnswer.{flow_graph, is_flow_of}
use Rattle.se_flow.specs.FlowTexts.{flow_words}
use Rattle.se_flow.proofs.flow.write_answer.Goals as goal

pub returns-in-Some : goal.returns-in-Some
returns-in-Some g c =
    let rules = c.args.rules in
    let asks = flow_view c.args.asks.now in
    let weights = weights_of c.args.map.now in
    between_sent (flow_words weights rules asks.least) (is_flow_of asks rules weights) (flow_graph asks) rules.policy c.in-Some.ends _ _ _
    (sym (ap (λ (policy : Parts). ends_named policy asks.source asks.target asks.all asks.reverse) c.policy-policy.ensures) ∙ sym c.ends_named.ensures.ends ∙ c.in-Some.is) c.write_between.ensures

pub returns-in-None : goal.returns-in-None
returns-in-None g c =
    let rules = c.args.rules in
    let asks = flow_view c.args.asks.now in
    let weights = weights_of c.args.map.now in
    no_ends_sent (flow_words weights rules asks.least) (is_flow_of asks rules weights) (flow_graph asks) rules.policy _ _
    (sym (ap (λ (policy : Parts). ends_named policy asks.source asks.target asks.all asks.reverse) c.policy-policy.ensures) ∙ sym c.ends_named.ensures.ends ∙ c.in-None.is)
