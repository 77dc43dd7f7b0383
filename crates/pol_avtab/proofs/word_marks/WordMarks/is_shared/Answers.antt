use Rattle.std.proofs.Common.{ℕ, ◌+◌, List, ap, ◌∙◌}
use Rattle.pol_cursor.specs.Inner.BitPlaces.{has_bit_of}
use Rattle.pol_avtab.specs.Inner.DuplicateKeys.{Marks, is_shared}
use Rattle.pol_avtab.proofs.word_marks.WordMarks.is_shared.Goals as goal

pub returns : goal.returns
unfolding is_shared
returns c =
    c.has_bit.ensures
    ∙ ap (λ (bits : List ℕ). has_bit_of bits (c.place_of.result + 1)) (c.deref.ensures.value ∙ ap (λ (m : Marks). m.bits) c.self.view_is)
    ∙ ap (λ (place : ℕ). has_bit_of c.args.self.now.bits (place + 1)) c.place_of.ensures.is
