use Rattle.std.proofs.Common.{◌≡◌, List, subst}
use Rattle.pol_bitmap.specs.declared.Node.{Node}
use Rattle.pol_bitmap.specs.Nodes.{bits_of}
use Rattle.pol_bitmap.specs.Sets.{IsCommon}
use Rattle.pol_expand.specs.PlainTypes.{types_outside}
use Rattle.flow_search.specs.FlowEdges.{FlowSearch}
use Rattle.flow_search.specs.Inner.FlowParts.{IsOpenPart}
use Rattle.flow_search.proofs.Results.{if_ok}
use Rattle.flow_search.proofs.Successors.{open_part}
use Rattle.flow_search.proofs.flow_graph.FlowGraph.open_among.Goals as goal

pub returns : goal.returns
returns c =
    if_ok (λ (set : List Node). IsCommon (bits_of c.args.types.now) (bits_of c.self.inside.open_types) (bits_of set)) (λ (set : List Node). IsOpenPart c.args.self.now (bits_of c.args.types.now) (bits_of set)) c.common.result
    (λ set common. open_part c.args.self.now c.self.inside.open_types (bits_of c.args.types.now) (bits_of set)
    (subst (λ (s : FlowSearch). bits_of c.self.inside.open_types ≡ types_outside s.rules.policy s.excluded) c.self.view_is c.self.invariant.2) common)
    c.common.ensures.bits
