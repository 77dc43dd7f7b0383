use Rattle.std.proofs.Common.{List, subst, ap, ◌∙◌, arith}
use Rattle.pol_cursor.specs.Outcome.{Got}
use Rattle.pol_bitmap.specs.declared.node.Node.{Node}
use Rattle.std.proofs.lemmas.Result.{err_from_is_err_and}
use Rattle.pol_bitmap.specs.Bitmap.{node_at, floor_after, nodes_at}
use Rattle.pol_bitmap.specs.Nodes.{IsRisingFrom}
use Rattle.pol_cursor.proofs.Lists.{Passing-start, Passing-next, Passing-bad, Passing-end}
use Rattle.pol_bitmap.proofs.NodePlaces.{list_placed, list_rising}
use Rattle.pol_bitmap.proofs.reading.pass_nodes.Goals as goal

pub loop-i-init : goal.loop-i-init
loop-i-init c = Passing-start (node_at c.args.limit c.args.highbit) floor_after c.args.count 0 c.args.c.now

pub returns-in_err-node-clause-exact : goal.returns-in_err-node-clause-exact
unfolding nodes_at
returns-in_err-node-clause-exact c =
    let p = err_from_is_err_and c.from_residual.result c.from_residual.ensures.1 in
    rw (p.1, p.2) (Passing-bad (node_at c.args.limit c.args.highbit) floor_after c.args.count 0 c.args.c.now c.loop-i.i c.loop-i.floor c.loop-i.c c.in_err-node.field-0.0 c.loop-i-test.true c.in_err-node.ensures.exact c.loop-i.invariant)

pub loop-i-preserved : goal.loop-i-preserved
loop-i-preserved c =
    Passing-next (node_at c.args.limit c.args.highbit) floor_after c.args.count 0 c.args.c.now c.loop-i.i c.loop-i.floor c.loop-i.c c.in_ok-node.node c.read_node.new.c c.loop-i-test.true c.in_ok-node.ensures.exact c.loop-i.invariant

pub returns : goal.returns
unfolding nodes_at
returns c =
    let s = Passing-end (node_at c.args.limit c.args.highbit) floor_after c.args.count 0 c.args.c.now c.loop-i.i c.loop-i.floor c.loop-i.c c.loop-i-test.false c.loop-i.invariant in
    let p = list_placed c.args.limit c.args.highbit c.args.count 0 c.args.c.now.bytes c.args.c.now.place s.value c.loop-i.c.place s.read in
    record { exact = (s.read ∙ ap (λ (ns : List Node). Got ns c.loop-i.c.place) p.are, s.same); rising = subst (IsRisingFrom 0) p.are (list_rising c.args.limit c.args.highbit c.args.count 0 0 c.args.c.now.bytes c.args.c.now.place s.value c.loop-i.c.place (λ k m le. le) s.read); next = p.ends; long = λ le. omega (arith, p.ends, p.long le) }
