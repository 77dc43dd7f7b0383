use Rattle.std.proofs.Common.{get_or, arith}
use Rattle.std.proofs.lemmas.List.{take_all}
use Rattle.std.proofs.lemmas.Option.{slice_get-get_or}
use Rattle.pol_bitmap.specs.declared.node.Node.{Node}
use Rattle.pol_bitmap.proofs.NodeBits.{least_at, none_more, rising_start}
use Rattle.pol_bitmap.proofs.set_search.next_of.Goals as goal

pub next_in-requires : goal.next_in-requires
next_in-requires c =
    let none : Node = record { start = 0; map = 0 } in
    rising_start 0 c.args.nodes.now c.loop-i.i (get_or c.args.nodes.now c.loop-i.i none) c.requires.0 (slice_get-get_or c.args.nodes.now c.loop-i.i none (omega arith))

pub returns-in-Some-clause-some : goal.returns-in-Some-clause-some
returns-in-Some-clause-some c =
    let none : Node = record { start = 0; map = 0 } in
    least_at 0 c.args.bit c.in-Some.found c.args.nodes.now c.loop-i.i (get_or c.args.nodes.now c.loop-i.i none) c.requires.0 (slice_get-get_or c.args.nodes.now c.loop-i.i none (omega arith)) c.loop-i.invariant c.in-Some.ensures.some

pub loop-i-preserved : goal.loop-i-preserved
loop-i-preserved c =
    let none : Node = record { start = 0; map = 0 } in
    none_more c.args.bit c.args.nodes.now c.loop-i.i (get_or c.args.nodes.now c.loop-i.i none) (slice_get-get_or c.args.nodes.now c.loop-i.i none (omega arith)) c.loop-i.invariant c.in-None.ensures.none

pub returns-clause-none : goal.returns-clause-none
returns-clause-none c = rw (take_all c.loop-i.i c.args.nodes.now (omega arith)) at c.loop-i.invariant
