use Rattle.std.proofs.Common.{◌≡◌, ℕ, ◌+◌, ◌*◌, true, false, ◌⊎◌, inl, inr, List, length, sym, ap, subst, ◌∙◌, arith}
use Rattle.std.specs.Prelude.{◌||◌, ◌==◌}
use Rattle.std.specs.Vec.{with_items}
use Rattle.std.proofs.lemmas.List.{with_items_is}
use Rattle.pol_cursor.specs.Inner.BitPlaces.{has_bit_of}
use Rattle.pol_avtab.specs.Inner.DuplicateKeys.{Marks, bucket_of, is_met}
use Rattle.pol_avtab.proofs.SharedWords.{Meets, meets_at}
use Rattle.pol_avtab.proofs.word_marks.WordMarks.meet.Goals as goal
use Rattle.pol_avtab.proofs.word_marks.WordMarks.meet.Goals.{then-has_bit, else-has_bit}

pub returns : goal.returns
unfolding is_met
returns c =
    let marks : Marks = record { shift = c.self.inside.shift; bits = c.self.inside.bits.items } in
    let word = c.args.word in
    let bits = c.set_bit.new.bits in
    let place = c.if-has_bit.place in
    let first : c.place_of-first.result ≡ 2 * bucket_of marks.shift word = c.place_of-first.ensures.is ∙ sym (ap (λ (m : Marks). 2 * bucket_of m.shift word) c.self.view_is) in
    let found : c.has_bit.result ≡ is_met marks word =
    c.has_bit.ensures ∙ ap (λ (bs : List ℕ). has_bit_of bs c.place_of-first.result) c.deref.ensures.value ∙ ap (λ (p : ℕ). has_bit_of marks.bits p) first in
    let which : ((is_met marks word ≡ true) × (place ≡ 2 * bucket_of marks.shift word + 1)) ⊎ ((is_met marks word ≡ false) × (place ≡ 2 * bucket_of marks.shift word)) =
    elim c.if-has_bit.branch [
      | then-has_bit w ↦ inl (sym found ∙ w.if-has_bit.true, w.place-is ∙ ap (λ (p : ℕ). p + 1) first)
      | else-has_bit w ↦ inr (sym found ∙ w.if-has_bit.false, w.place-is ∙ first)
    ] in
    let long : length bits ≡ c.self.inside.bits.len = omega (arith, c.set_bit.auto.bits, ap (λ (bs : List ℕ). length bs) c.deref_mut.ensures.value, c.self.inside.bits.ok.0) in
    let written = with_items_is c.self.inside.bits bits long in
    let meets = subst (λ (m : Marks). Meets m word (record { shift = marks.shift; bits = (with_items c.self.inside.bits bits).items })) c.self.view_is
    (meets_at marks word (with_items c.self.inside.bits bits).items place
    (λ other. ap (λ (bs : List ℕ). has_bit_of bs other) written ∙ c.set_bit.ensures other ∙ ap (λ (bs : List ℕ). has_bit_of bs other || (place == other)) c.deref_mut.ensures.value)
    which) in
    record { met = meets.met; again = meets.again; stay_met = meets.stay_met; stay_shared = meets.stay_shared }
