use Rattle.std.proofs.Common.{◌-◌, ◌%◌, ◌+◌, ◌/◌, arith}
use Rattle.pol_bitmap.proofs.SetPlaces.{bits_before, ends_after, starts_before, starts_from}
use Rattle.pol_bitmap.proofs.view.BitmapView.place_of.Goals as goal

pub halves-preserved-then-node-start : goal.halves-preserved-then-node-start
halves-preserved-then-node-start c =
    let h = c.halves.invariant in
    let middle = c.halves.low + (c.halves.high - c.halves.low) / 2 in
    (omega arith, h.1, starts_before c.args.self.now middle c.node.result (c.args.bit - c.args.bit % 64) c.node_count-high.ensures.rising c.node.ensures.is c.if-node-start.true, h.3)

pub halves-preserved : goal.halves-preserved
halves-preserved c =
    let h = c.halves.invariant in
    let middle = c.halves.low + (c.halves.high - c.halves.low) / 2 in
    (omega arith, omega (arith, h.1), h.2, starts_from c.args.self.now middle c.node.result (c.args.bit - c.args.bit % 64) c.node_count-high.ensures.rising c.node.ensures.is c.if-node-start.false)

pub returns-clause-before : goal.returns-clause-before
returns-clause-before c = bits_before 0 c.args.bit c.args.self.now c.halves.low c.node_count-high.ensures.rising c.halves.invariant.2

pub returns-clause-after : goal.returns-clause-after
returns-clause-after c =
    let h = c.halves.invariant in
    ends_after c.args.bit c.args.self.now c.halves.low (λ k d le lt. h.3 k d (omega (arith, h.0, c.halves-test.false)) lt)
