use Rattle.std.proofs.Common.{◌≡◌, ◌⊎◌, [], inl, inr, refl, bit_and, arith}
use Rattle.std.specs.Int.{bit_not, w64}
use Rattle.std.proofs.lemmas.Nat.{and_le_l}
use Rattle.pol_bitmap.proofs.Merging.{Merging-push, Merging-skip, difference-end, map_only_left, only_left, none_left}
use Rattle.pol_bitmap.proofs.BitSets.{difference_bits}
use Rattle.pol_bitmap.proofs.set_ops.difference_of.Goals as goal
use Rattle.pol_bitmap.proofs.set_ops.difference_of.Goals.{then-map-ne0+in_ok-push, else-map-ne0, then-merge-test+else-not-is_empty, else-merge-test}

pub merge-preserved : goal.merge-preserved
merge-preserved c =
    let cut = c.first_cut-cut.result in
    let h = c.first_cut-cut.ensures in
    elim c.if-map-ne0.branch [
      | then-map-ne0+in_ok-push w ↦ rw (w.out-is, w.in_ok-push.ensures.items) (Merging-push only_left refl c.args.left.now c.args.right.now c.merge.out.items c.merge.a.now c.merge.b.now cut.start cut.left cut.right (bit_and cut.left (bit_not w64 cut.right)) cut.left_rest.now cut.right_rest.now
          c.merge.invariant h.left_is h.right_is h.above h.whole (omega arith, omega (arith, and_le_l cut.left (bit_not w64 cut.right))) (omega (arith, w.if-map-ne0.true)) (map_only_left cut.left cut.right (omega arith)))
      | else-map-ne0 w ↦ rw w.out-is (Merging-skip only_left refl c.args.left.now c.args.right.now c.merge.out.items c.merge.a.now c.merge.b.now cut.start cut.left cut.right cut.left_rest.now cut.right_rest.now
          c.merge.invariant h.left_is h.right_is h.above (rw w.if-map-ne0.false at (map_only_left cut.left cut.right (omega arith))))
    ]

pub returns : goal.returns
returns c =
    let none : (c.merge.a.now ≡ []) ⊎ (c.merge.b.now ≡ []) =
    elim c.merge-test.branch [
      | then-merge-test+else-not-is_empty w ↦ inr (none_left c.merge.b.now w.if-not-is_empty.ensures)
      | else-merge-test w ↦ inl (none_left c.merge.a.now w.merge-test.ensures)
    ] in
    let end = difference-end c.args.left.now c.args.right.now c.merge.out.items c.merge.a.now c.merge.b.now c.merge.invariant none in
    rw c.in_ok-extend_from_slice.ensures.items (record { set = end.0; bits = difference_bits c.args.left.now c.args.right.now _ end.1 })
