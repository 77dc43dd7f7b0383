use Rattle.std.proofs.Common.{◌≡◌, subst}
use Rattle.pol_bitmap.specs.Nodes.{bits_of}
use Rattle.pol_expand.specs.PlainTypes.{types_outside}
use Rattle.flow_search.specs.FlowEdges.{FlowSearch}
use Rattle.flow_search.proofs.Successors.{has_open}
use Rattle.flow_search.proofs.flow_graph.FlowGraph.is_open.Goals as goal

pub returns-clause-may : goal.returns-clause-may
returns-clause-may c =
    has_open c.args.self.now c.self.inside.open_types c.args.node c.has.result
    (subst (λ (s : FlowSearch). bits_of c.self.inside.open_types ≡ types_outside s.rules.policy s.excluded) c.self.view_is c.self.invariant.2) c.has.ensures
