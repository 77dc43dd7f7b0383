use Rattle.std.proofs.Common.{◌≡◌, ◌⊎◌, inl, inr, [], refl, bit_and, false, arith}
use Rattle.std.specs.Int.{bit_not, w64}
use Rattle.std.proofs.lemmas.Nat.{and_le_l}
use Rattle.pol_bitmap.specs.Nodes.{has_bit}
use Rattle.pol_bitmap.proofs.Merging.{Merging-skip, Merging-found, contains_end, map_only_right, only_right, not_right, none_left}
use Rattle.pol_bitmap.proofs.BitSets.{contains_bits_of}
use Rattle.pol_bitmap.proofs.set_ops.contains_of.Goals as goal
use Rattle.pol_bitmap.proofs.set_ops.contains_of.Goals.{then-merge-test+else-not-is_empty, else-merge-test}

pub returns-then-cut-ne0 : goal.returns-then-cut-ne0
returns-then-cut-ne0 c =
    let cut = c.first_cut-cut.result in
    let h = c.first_cut-cut.ensures in
    let one = Merging-found only_right refl c.args.left.now c.args.right.now [] c.merge.a.now c.merge.b.now cut.start cut.left cut.right (bit_and cut.right (bit_not w64 cut.left)) cut.left_rest.now cut.right_rest.now
    c.merge.invariant h.left_is h.right_is (map_only_right cut.left cut.right (omega arith)) (omega (arith, c.if-cut-ne0.true)) (omega (arith, and_le_l cut.right (bit_not w64 cut.left))) in
    contains_bits_of false c.args.left.now c.args.right.now (λ t. absurd (cc t), λ all. absurd (not_right (has_bit c.args.left.now one.0) (has_bit c.args.right.now one.0) one.1 (all one.0)))

pub merge-preserved : goal.merge-preserved
merge-preserved c =
    let cut = c.first_cut-cut.result in
    let h = c.first_cut-cut.ensures in
    Merging-skip only_right refl c.args.left.now c.args.right.now [] c.merge.a.now c.merge.b.now cut.start cut.left cut.right cut.left_rest.now cut.right_rest.now
    c.merge.invariant h.left_is h.right_is h.above (rw c.if-cut-ne0.false at (map_only_right cut.left cut.right (omega arith)))

pub returns : goal.returns
returns c =
    let none : (c.merge.a.now ≡ []) ⊎ (c.merge.b.now ≡ []) =
    elim c.merge-test.branch [
      | then-merge-test+else-not-is_empty w ↦ inr (none_left c.merge.b.now w.if-not-is_empty.ensures)
      | else-merge-test w ↦ inl (none_left c.merge.a.now w.merge-test.ensures)
    ] in
    contains_bits_of c.is_empty-2.result c.args.left.now c.args.right.now (contains_end c.args.left.now c.args.right.now c.merge.a.now c.merge.b.now c.merge.invariant none c.is_empty-2.result c.is_empty-2.ensures)
