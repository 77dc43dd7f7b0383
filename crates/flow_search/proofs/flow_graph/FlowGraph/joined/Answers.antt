use Rattle.std.proofs.Common.{List, subst}
use Rattle.pol_bitmap.specs.declared.Node.{Node}
use Rattle.pol_bitmap.specs.Nodes.{bits_of}
use Rattle.pol_bitmap.specs.Sets.{IsUnion}
use Rattle.perm_map.specs.PermissionMap.{weights_of}
use Rattle.flow_search.specs.FlowEdges.{FlowSearch}
use Rattle.flow_search.specs.Inner.FlowParts.{AreFlowRules, AreJoined, any_edge}
use Rattle.flow_search.proofs.Results.{if_ok}
use Rattle.flow_search.proofs.Successors.{rules_join}
use Rattle.flow_search.proofs.flow_graph.FlowGraph.joined.Goals as goal

pub returns : goal.returns
returns c =
    if_ok (λ (set : List Node). IsUnion (bits_of c.in_ok-out.out) (bits_of c.in_ok-into.into) (bits_of set))
    (λ (set : List Node). AreJoined c.args.self.now.rules.policy (any_edge c.args.self.now c.args.node) (bits_of set))
    c.either.result
    (λ set union. rules_join c.args.self.now c.args.node c.self.inside.out c.self.inside.into
    (subst (λ (s : FlowSearch). AreFlowRules (weights_of s.entries) s.rules s.least s.reverse c.self.inside.out c.self.inside.into) c.self.view_is c.self.invariant.1)
    (bits_of c.in_ok-out.out) (bits_of c.in_ok-into.into) (bits_of set) c.in_ok-out.ensures c.in_ok-into.ensures union)
    c.either.ensures
