use Rattle.std.proofs.Common.{◌≡◌, List, [], sym, ◌∙◌}
use Rattle.pol_bitmap.specs.declared.Node.{Node}
use Rattle.pol_bitmap.specs.Nodes.{bits_of}
use Rattle.walk_enum.specs.Walks.{AreSuccessors}
use Rattle.flow_search.specs.FlowEdges.{flow_edge}
use Rattle.flow_search.proofs.Results.{if_ok}
use Rattle.flow_search.proofs.Successors.{no_ends}
use Rattle.flow_search.proofs.flow_graph.FlowGraph.flows_from.Goals as goal

pub returns-else-is_open : goal.returns-else-is_open
returns-else-is_open c =
    if_ok (λ (set : List Node). bits_of set ≡ []) (λ (set : List Node). AreSuccessors (flow_edge c.args.self.now) c.args.node (bits_of set)) c.empty.result
    (λ set none. no_ends c.args.self.now c.args.node (bits_of set) c.is_open.ensures.least (sym c.is_open.ensures.may ∙ c.if-is_open.false) none)
    c.empty.ensures.bits
