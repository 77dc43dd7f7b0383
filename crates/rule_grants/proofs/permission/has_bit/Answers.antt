use Rattle.std.proofs.Common.{◌≡◌, sym, ◌∙◌, arith}
use Rattle.std.specs.Int.{bit_at}
use Rattle.std.proofs.lemmas.Bool.{ne_eqb, le-ltb}
use Rattle.std.proofs.lemmas.Nat.Bits.{bit_at_above}
use Rattle.rule_grants.proofs.permission.has_bit.Goals as goal

pub returns-else-bit-lt32 : goal.returns-else-bit-lt32
returns-else-bit-lt32 c =
    let none : bit_at c.args.mask c.args.bit ≡ 0 = bit_at_above c.args.mask 32 c.args.bit (omega (arith, c.ranges.mask)) c.if-bit-lt32.false in
    le-ltb c.args.bit 32 c.if-bit-lt32.false ∙ sym (ne_eqb (bit_at c.args.mask c.args.bit) 1 (λ e. omega (arith, e, none)))
