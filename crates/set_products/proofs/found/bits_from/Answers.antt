use Rattle.std.proofs.Common.{arith, length, length-append}
use Rattle.set_products.proofs.Rising.{BothLeft, bit_met, bit_passed}
use Rattle.pol_bitmap.specs.Nodes.{bits_of}
use Rattle.std.proofs.Common.{ℕ, ◌≡◌, ◌+◌, [], ◌∷◌, ◌++◌, subst}
use Rattle.set_products.proofs.found.bits_from.Goals as goal

pub returns-then-found-bit : goal.returns-then-found-bit
returns-then-found-bit c = bit_met c.args.set.now c.requires c.args.bit (length c.loop-found.yielded) c.in-Some.found c.loop-found.left c.loop-found.found-iterator c.next.new.self c.loop-found.invariant c.in-Some.ensures.steps c.if-found-bit.true

pub loop-found-preserved : goal.loop-found-preserved
loop-found-preserved c =
    let more : length c.loop-found.yielded + 1 ≡ length (c.loop-found.yielded ++ c.in-Some.found ∷ []) = omega (arith, length-append c.loop-found.yielded (c.in-Some.found ∷ [])) in
    subst (λ (n : ℕ). BothLeft (bits_of c.args.set.now) c.args.bit n c.next-in-loop-found.new.self c.next.new.self) more
    (bit_passed c.args.set.now c.args.bit (length c.loop-found.yielded) c.in-Some.found c.loop-found.left c.loop-found.found-iterator c.next.new.self c.next-in-loop-found.result c.next-in-loop-found.new.self
    c.loop-found.invariant c.in-Some.ensures.steps c.if-found-bit.false c.next-in-loop-found.ensures.steps)
