use Rattle.std.proofs.Common.{◌≡◌, ◌⊎◌, ◌||◌, [], inl, inr, refl, bit_or, arith}
use Rattle.std.proofs.lemmas.Nat.{or_lt}
use Rattle.pol_bitmap.proofs.Merging.{Merging-push, map_or, union-end, none_left}
use Rattle.pol_bitmap.proofs.BitSets.{union_bits}
use Rattle.pol_bitmap.proofs.set_ops.union_of.Goals as goal
use Rattle.pol_bitmap.proofs.set_ops.union_of.Goals.{then-merge-test+else-not-is_empty, else-merge-test}

pub merge-preserved : goal.merge-preserved
merge-preserved c =
    let cut = c.first_cut-cut.result in
    let h = c.first_cut-cut.ensures in
    rw c.in_ok-push.ensures.items (Merging-push ◌||◌ refl c.args.left.now c.args.right.now c.merge.out.items c.merge.a.now c.merge.b.now cut.start cut.left cut.right (bit_or cut.left cut.right) cut.left_rest.now cut.right_rest.now
    c.merge.invariant h.left_is h.right_is h.above h.whole (omega arith, or_lt 64 cut.left cut.right (omega arith) (omega arith)) h.some (map_or cut.left cut.right))

pub returns : goal.returns
returns c =
    let none : (c.merge.a.now ≡ []) ⊎ (c.merge.b.now ≡ []) =
    elim c.merge-test.branch [
      | then-merge-test+else-not-is_empty w ↦ inr (none_left c.merge.b.now w.if-not-is_empty.ensures)
      | else-merge-test w ↦ inl (none_left c.merge.a.now w.merge-test.ensures)
    ] in
    let end = union-end c.args.left.now c.args.right.now c.merge.out.items c.merge.a.now c.merge.b.now c.merge.invariant none in
    rw (c.in_ok-extend_from_slice-2.ensures.items, c.in_ok-extend_from_slice.ensures.items) (record { set = end.0; bits = union_bits c.args.left.now c.args.right.now _ end.1 })
