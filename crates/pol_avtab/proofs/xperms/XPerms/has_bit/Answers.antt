use Rattle.std.proofs.Common.{◌≡◌, ◌+◌, ◌*◌, ◌/◌, ◌%◌, ℕ, ap, sym, ◌∙◌, ◌==◌, arith}
use Rattle.std.specs.Int.{bit_at}
use Rattle.std.proofs.lemmas.Nat.Bits.{shr_and_one}
use Rattle.pol_cursor.specs.Parts.{num}
use Rattle.pol_avtab.specs.XPerms.{Numbers}
use Rattle.pol_avtab.proofs.Places.{num_part}
use Rattle.pol_avtab.proofs.xperms.XPerms.has_bit.Goals as goal

pub returns : goal.returns
returns c =
    let x = c.self.inside in
    let i = 4 * (c.args.bit / 32) in
    let word : c.u32_in-word.result ≡ num c.args.self.now.bits i 4 = c.u32_in-word.ensures ∙ sym (num_part x.bytes.now (x.place + 2) 32 i 4 (omega (arith, c.requires))) ∙ ap (λ (r : Numbers). num r.bits i 4) c.self.view_is in
    ap (λ (n : ℕ). n == 1) (shr_and_one c.u32_in-word.result (c.args.bit % 32) ∙ ap (λ (n : ℕ). bit_at n (c.args.bit % 32)) word)
