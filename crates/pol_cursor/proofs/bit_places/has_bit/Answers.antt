use Rattle.std.proofs.Common.{ℕ, ◌%◌, ap, sym, ◌∙◌, arith}
use Rattle.std.specs.Prelude.{◌==◌}
use Rattle.std.specs.Int.{bit_at}
use Rattle.std.proofs.lemmas.Nat.Bits.{bit_at-zero, shr_and_one}
use Rattle.pol_cursor.specs.Inner.BitPlaces.{has_bit_of}
use Rattle.pol_cursor.proofs.bit_places.has_bit.Goals as goal

pub returns-in-Some : goal.returns-in-Some
unfolding has_bit_of
returns-in-Some c =
    ap (λ (b : ℕ). b == 1) (
    shr_and_one c.in-Some.word.now (c.args.place % 64)
    ∙ ap (λ (w : ℕ). bit_at w (c.args.place % 64)) (c.in-Some.ensures.lookup.4 (omega arith) 0)
    )

pub returns-in-None : goal.returns-in-None
unfolding has_bit_of
returns-in-None c =
    sym (ap (λ (w : ℕ). bit_at w (c.args.place % 64) == 1) (sym (c.in-None.ensures.lookup.4 (omega arith) 0)) ∙ ap (λ (b : ℕ). b == 1) (bit_at-zero (c.args.place % 64)))
