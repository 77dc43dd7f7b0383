use Rattle.std.proofs.Common.{List, subst}
use Rattle.std.proofs.lemmas.Result.{IfOk-weaker}
use Rattle.pol_bitmap.specs.declared.Node.{Node}
use Rattle.pol_bitmap.specs.Nodes.{bits_of}
use Rattle.walk_enum.specs.Walks.{AreSuccessors}
use Rattle.dom_trans.specs.DomainEdges.{Domains, is_step}
use Rattle.dom_trans.specs.Inner.Targets.{AreOpen, AreSources}
use Rattle.dom_trans.proofs.Steps.{ends_to}
use Rattle.dom_trans.proofs.dom_graph.DomGraph.steps_to.Goals as goal

pub returns : goal.returns
returns c =
    let domains = c.args.self.now in
    let sources = bits_of c.in_ok-sources.sources in
    IfOk-weaker c.open_among.result (λ (set : List Node). AreOpen domains c.args.b sources (bits_of set)) (λ (set : List Node). AreSuccessors (λ node a. is_step domains a node) c.args.b (bits_of set))
    (λ set opened. ends_to domains c.args.b sources (bits_of set) (subst (λ (s : Domains). AreSources s.rules c.args.b sources) c.self.view_is c.in_ok-sources.ensures) opened)
    c.open_among.ensures
