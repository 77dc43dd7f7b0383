use Rattle.std.proofs.Common.{sym, ap, ◌∙◌}
use Rattle.dom_trans.specs.DomainEdges.{Domains}
use Rattle.dom_trans.proofs.Steps.{ends_forward, ends_reverse}
use Rattle.dom_trans.proofs.dom_graph.DomGraph.transitions_from.Goals as goal

pub returns-then-self : goal.returns-then-self
returns-then-self c = ends_reverse c.args.self.now c.args.node c.steps_to.result (ap (λ (s : Domains). s.reverse) (sym c.self.view_is) ∙ c.if-self.true) c.steps_to.ensures

pub returns-else-self : goal.returns-else-self
returns-else-self c = ends_forward c.args.self.now c.args.node c.steps_from.result (ap (λ (s : Domains). s.reverse) (sym c.self.view_is) ∙ c.if-self.false) c.steps_from.ensures
