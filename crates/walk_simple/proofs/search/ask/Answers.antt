use Rattle.std.proofs.Common.{subst, ◌∙◌}
use Rattle.pol_bitmap.specs.Nodes.{bits_of}
use Rattle.pol_bitmap.specs.Sets.{IsSet}
use Rattle.pol_bitmap.proofs.BitLists.{bits_increasing}
use Rattle.walk_enum.proofs.Ascending.{ascends_from_increasing}
use Rattle.walk_enum.proofs.Rows.{ends_are}
use Rattle.walk_simple.proofs.search.ask.Goals as goal

pub returns-clause-found : goal.returns-clause-found
returns-clause-found g c =
    let set = c.in_ok-set.set in
    let form : IsSet set = subst IsSet c.set.view_is c.set.invariant in
    c.in_ok-row.ensures ∙ ends_are (g.G.Graph.edge c.args.graph.now) (g.G.Graph.nodes c.args.graph.now) c.args.node (bits_of set) (ascends_from_increasing (bits_of set) (bits_increasing 0 set form.0)) c.in_ok-set.ensures.found
    (λ b e. let r = g.met.G.Graph.between c.args.graph.now c.args.node b e in (r.2, r.3))
