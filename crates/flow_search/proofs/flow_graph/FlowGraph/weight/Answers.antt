use Rattle.std.proofs.Common.{◌≡◌, ◌≤◌, ℕ, List, get_or, sym, ap, subst, ◌∙◌}
use Rattle.std.specs.List.{Contains}
use Rattle.std.proofs.lemmas.List.Elements.{Contains-get_or}
use Rattle.perm_map.specs.PermissionMap.{weights_of}
use Rattle.flow_search.specs.Flows.{flow_rules}
use Rattle.flow_search.specs.FlowEdges.{FlowSearch}
use Rattle.flow_search.proofs.Greatest.{rule_is_stored, weight_done}
use Rattle.flow_search.proofs.flow_graph.FlowGraph.weight.Goals as goal

pub raised-weight-requires : goal.raised-weight-requires
raised-weight-requires c =
    let number = get_or c.args.rules.now c.loop-number.number-index 0 in
    let among : Contains c.args.rules.now number = Contains-get_or c.args.rules.now c.loop-number.number-index 0 c.loop-number-test.true in
    let are : c.args.rules.now ≡ flow_rules (weights_of c.self.inside.weigher.entries) c.self.inside.weigher.rules c.self.inside.least c.args.from c.args.to = c.requires ∙ ap (λ (s : FlowSearch). flow_rules (weights_of s.entries) s.rules s.least c.args.from c.args.to) (sym c.self.view_is) in
    rule_is_stored (weights_of c.self.inside.weigher.entries) c.self.inside.weigher.rules c.self.inside.least c.args.from c.args.to number (subst (λ (rules : List ℕ). Contains rules number) are among)

pub returns : goal.returns
returns c =
    weight_done (weights_of c.args.self.now.entries) c.args.self.now.rules c.args.self.now.least c.args.from c.args.to c.args.rules.now c.loop-number.number-index c.loop-number.weight
    (subst (λ (s : FlowSearch). 1 ≤ s.least) c.self.view_is c.self.invariant.0) c.requires (sym c.is_empty.ensures ∙ c.if-is_empty.false) c.loop-number-test.false c.loop-number.invariant
