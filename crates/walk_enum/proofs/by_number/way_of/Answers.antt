use Rattle.std.proofs.Common.{◌+◌, suc, drop, sym, ap, arith, add-one, drop-cons, subst, ◌-◌, ℕ}
use Rattle.std.specs.Prelude.{slice_index}
use Rattle.std.proofs.lemmas.List.{take_more}
use Rattle.walk_enum.proofs.NumberedWalks.{IsAmong, among_more, among_way}
use Rattle.walk_enum.proofs.by_number.way_of.Goals as goal

pub returns-then-left-count : goal.returns-then-left-count
returns-then-left-count c =
    let row = c.args.row.now in
    let i = c.loop-node.node-index in
    among_way (slice_index c.args.counts.now) row c.args.before i c.loop-node.left (slice_index row i) c.loop-node.invariant (drop (suc i) row) (drop-cons row i 0 c.loop-node-test.true) (omega (arith, c.if-left-count.true, c.count_at-count.ensures))

pub loop-node-preserved : goal.loop-node-preserved
loop-node-preserved c =
    let row = c.args.row.now in
    let number = slice_index c.args.counts.now in
    let i = c.loop-node.node-index in
    subst (λ (count : ℕ). IsAmong number row c.args.before (i + 1) (c.loop-node.left - count)) (sym c.count_at-count.ensures)
    (among_more number row c.args.before i c.loop-node.left (slice_index row i) c.loop-node.invariant (drop (suc i) row) (drop-cons row i 0 c.loop-node-test.true) (i + 1)
    (omega (arith, c.if-left-count.false, c.count_at-count.ensures)) (take_more row i 0 c.loop-node-test.true) (ap (λ (n : ℕ). drop n row) (add-one i)))
