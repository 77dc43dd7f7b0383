use Rattle.std.proofs.Common.{List, subst}
use Rattle.std.proofs.lemmas.Result.{IfOk-weaker}
use Rattle.pol_bitmap.specs.declared.Node.{Node}
use Rattle.pol_bitmap.specs.Nodes.{bits_of}
use Rattle.walk_enum.specs.Walks.{AreSuccessors}
use Rattle.dom_trans.specs.DomainEdges.{Domains, is_step}
use Rattle.dom_trans.specs.Inner.Targets.{AreOpen, AreTargets}
use Rattle.dom_trans.proofs.Steps.{ends_from}
use Rattle.dom_trans.proofs.dom_graph.DomGraph.steps_from.Goals as goal

pub returns : goal.returns
returns c =
    let domains = c.args.self.now in
    let targets = bits_of c.in_ok-targets.targets in
    IfOk-weaker c.open_among.result (λ (set : List Node). AreOpen domains c.args.a targets (bits_of set)) (λ (set : List Node). AreSuccessors (is_step domains) c.args.a (bits_of set))
    (λ set opened. ends_from domains c.args.a targets (bits_of set) (subst (λ (s : Domains). AreTargets s.rules c.args.a targets) c.self.view_is c.in_ok-targets.ensures) opened)
    c.open_among.ensures
