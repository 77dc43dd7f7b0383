use Rattle.std.proofs.Common.{◌≡◌, ◌-◌, ◌+◌, ℕ, suc, List, length, subst, sym, ap, ◌∙◌, arith}
use Rattle.std.specs.Prelude.{slice_index}
use Rattle.walk_enum.specs.Inner.Counting.{noted}
use Rattle.walk_enum.specs.Inner.Turns.{row_of}
use Rattle.walk_enum.proofs.WalkCounts.{AreNoted, all_counted, noted_more}
use Rattle.walk_enum.proofs.counting.walk_counts.Goals as goal

pub loop-back-preserved : goal.loop-back-preserved
loop-back-preserved c =
    let rows = c.args.rows.now in
    let order = c.args.order.now in
    let counts = c.loop-back.counts.items in
    let back = c.loop-back.back in
    let q = length order - (back + 1) in
    let at : length order - 1 - back ≡ q = omega (arith, c.loop-back-test.true) in
    let later : length order - back ≡ suc q = omega (arith, c.loop-back-test.true) in
    let had : AreNoted rows order c.args.to counts (suc q) = subst (AreNoted rows order c.args.to counts) later c.loop-back.invariant in
    let is : c.note.new.counts.items ≡ noted counts (slice_index order q) (row_of rows (slice_index order q)) =
    c.note.ensures ∙ ap (noted counts (slice_index order (length order - 1 - back))) c.nodes_at.ensures ∙ ap (λ (n : ℕ). noted counts (slice_index order n) (row_of rows (slice_index order n))) at in
    subst (λ (l : List ℕ). AreNoted rows order c.args.to l q) (sym is) (noted_more rows order c.args.to c.requires counts q (omega (arith, c.loop-back-test.true)) had)

pub returns : goal.returns
returns c =
    let none : length c.args.order.now - c.loop-back.back ≡ 0 = omega (arith, c.loop-back-test.false) in
    all_counted c.args.rows.now c.args.order.now c.args.to c.requires c.loop-back.counts.items (subst (AreNoted c.args.rows.now c.args.order.now c.args.to c.loop-back.counts.items) none c.loop-back.invariant)
