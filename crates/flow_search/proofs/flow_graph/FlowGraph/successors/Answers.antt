use Rattle.std.proofs.Common.{List, [], ◌∷◌}
use Rattle.pol_bitmap.specs.declared.Node.{Node}
use Rattle.pol_bitmap.specs.Nodes.{bits_of}
use Rattle.pol_bitmap.specs.Sets.{IsDifference}
use Rattle.walk_enum.specs.Walks.{AreSuccessors}
use Rattle.flow_search.specs.FlowEdges.{flow_edge}
use Rattle.flow_search.proofs.Results.{if_ok}
use Rattle.flow_search.proofs.Successors.{ends_are}
use Rattle.flow_search.proofs.flow_graph.FlowGraph.successors.Goals as goal

pub returns : goal.returns
returns c =
    if_ok (λ (set : List Node). IsDifference (bits_of c.in_ok-found.found) (c.args.node ∷ []) (bits_of set)) (λ (set : List Node). AreSuccessors (flow_edge c.args.self.now) c.args.node (bits_of set)) c.without.result
    (λ set difference. ends_are c.args.self.now c.args.node (bits_of c.in_ok-joined.joined) (bits_of c.in_ok-found.found) (bits_of set) c.requires.least c.requires.may c.in_ok-joined.ensures c.in_ok-found.ensures difference)
    c.without.ensures
