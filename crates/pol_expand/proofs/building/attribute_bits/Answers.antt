use Rattle.std.proofs.Common.{◌≡◌, ◌+◌, ◌++◌, ◌∷◌, [], List, ℕ, Bool, true, false, cond, sym, ap, ◌∙◌, append-nil, arith}
use Rattle.pol_cursor.proofs.Ranges.{filter_range_one}
use Rattle.pol_bitmap.specs.Nodes.{has_bit}
use Rattle.pol_expand.specs.Inner.Inverting.{attribute_bits}
use Rattle.pol_expand.proofs.building.attribute_bits.Goals as goal
use Rattle.pol_expand.proofs.building.attribute_bits.Goals.{then-has_value+in_ok-push, else-has_value}

pub loop-bit-preserved : goal.loop-bit-preserved
loop-bit-preserved c =
    let attributes = c.args.attributes.now in
    let bit = c.loop-bit.bit in
    let so_far = attribute_bits attributes bit in
    let more = filter_range_one (λ (b : ℕ). has_bit attributes (b + 1)) 0 bit bit (omega arith) in
    elim c.if-has_value.branch [
      | then-has_value+in_ok-push w ↦
          let passes : has_bit attributes (bit + 1) ≡ true = sym c.has_value.ensures ∙ w.if-has_value.true in
          rw (w.bits-is, w.in_ok-push.ensures.items) (ap (λ (xs : List ℕ). xs ++ bit ∷ []) c.loop-bit.invariant ∙ ap (λ (b : Bool). so_far ++ cond b (bit ∷ []) []) (sym passes) ∙ sym more)
      | else-has_value w ↦
          let fails : has_bit attributes (bit + 1) ≡ false = sym c.has_value.ensures ∙ w.if-has_value.false in
          rw (w.bits-is) (c.loop-bit.invariant ∙ sym (append-nil so_far) ∙ ap (λ (b : Bool). so_far ++ cond b (bit ∷ []) []) (sym fails) ∙ sym more)
    ]
