use Rattle.std.proofs.Common.{◌≡◌, [], ap, arith, drop}
use Rattle.std.specs.Prelude.{slice_index}
use Rattle.std.proofs.lemmas.List.{drop_all}
use Rattle.walk_enum.specs.Inner.Counting.{total}
use Rattle.walk_enum.proofs.counting.ways_on.Goals as goal

pub returns : goal.returns
returns c =
    let counts = c.args.counts.now in
    let none : drop c.loop-node.node-index c.args.row.now ≡ [] = drop_all c.loop-node.node-index c.args.row.now (omega (arith, c.loop-node-test.false)) in
    let sum : total (slice_index counts) (drop c.loop-node.node-index c.args.row.now) ≡ 0 = ap (total (slice_index counts)) none in
    omega (arith, c.loop-node.invariant.sum, c.loop-node.invariant.few, sum)
