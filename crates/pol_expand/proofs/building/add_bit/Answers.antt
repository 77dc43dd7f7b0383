use Rattle.std.proofs.Common.{◌≡◌, ◌<◌, ◌*◌, ◌%◌, ◌^◌, ℕ, length, get_or, set, bit_or, sym, subst, ◌∙◌, arith}
use Rattle.std.specs.Prelude.{◌==◌}
use Rattle.std.proofs.lemmas.List.{get_or_default}
use Rattle.pol_expand.specs.Inner.Inverting.{GainType}
use Rattle.pol_expand.proofs.Gains.{gains_bit}
use Rattle.pol_expand.proofs.building.add_bit.Goals as goal

pub returns-then-bit-len : goal.returns-then-bit-len
returns-then-bit-len c =
    let words = c.args.words.now.items in
    let bit = c.args.bit in
    let place = c.args.place in
    let within : bit < length words = omega (arith, c.if-bit-len.true, c.args.words.now.ok) in
    let read : c.index_mut.result.now ≡ get_or words bit 0 = c.index_mut.ensures.value ∙ get_or_default words bit c.index_mut.result.now 0 within in
    subst (λ (w : ℕ). GainType place (λ other. other == bit) words (set words bit (bit_or w (1 * 2 ^ place % 2 ^ 64)))) (sym read) (gains_bit words bit place c.requires within)
