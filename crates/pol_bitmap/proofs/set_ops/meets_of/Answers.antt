use Rattle.std.proofs.Common.{◌&&◌, [], inl, inr, true, refl, bit_and, arith}
use Rattle.std.proofs.lemmas.Nat.{and_le_l}
use Rattle.pol_bitmap.proofs.Merging.{Merging-skip, Merging-found, map_and, none_left}
use Rattle.pol_bitmap.proofs.BitSets.{meets_bits, meets_end}
use Rattle.pol_bitmap.proofs.set_ops.meets_of.Goals as goal

pub returns-then-cut-ne0 : goal.returns-then-cut-ne0
returns-then-cut-ne0 c =
    let cut = c.first_cut-cut.result in
    let h = c.first_cut-cut.ensures in
    meets_bits true c.args.left.now c.args.right.now (
      λ t. Merging-found ◌&&◌ refl c.args.left.now c.args.right.now [] c.merge.a.now c.merge.b.now cut.start cut.left cut.right (bit_and cut.left cut.right) cut.left_rest.now cut.right_rest.now
          c.merge.invariant h.left_is h.right_is (map_and cut.left cut.right) (omega (arith, c.if-cut-ne0.true)) (omega (arith, and_le_l cut.left cut.right)),
      λ one. refl,
    )

pub merge-preserved : goal.merge-preserved
merge-preserved c =
    let cut = c.first_cut-cut.result in
    let h = c.first_cut-cut.ensures in
    Merging-skip ◌&&◌ refl c.args.left.now c.args.right.now [] c.merge.a.now c.merge.b.now cut.start cut.left cut.right cut.left_rest.now cut.right_rest.now
    c.merge.invariant h.left_is h.right_is h.above (rw c.if-cut-ne0.false at (map_and cut.left cut.right))

pub returns-else-not-is_empty : goal.returns-else-not-is_empty
returns-else-not-is_empty c = meets_end c.args.left.now c.args.right.now c.merge.a.now c.merge.b.now c.merge.invariant (inr (none_left c.merge.b.now c.if-not-is_empty.ensures))

pub returns-after-merge : goal.returns-after-merge
returns-after-merge c = meets_end c.args.left.now c.args.right.now c.merge.a.now c.merge.b.now c.merge.invariant (inl (none_left c.merge.a.now c.merge-test.ensures))
