-- What a part that was read is, by its place.
use Rattle.std.proofs.Common.{Option, None, Bool, true, false, cond, ◌==◌, subst, ◌∙◌, ◌≡◌, ℕ, ◌+◌, ◌≤◌, ltb, List, length, take, drop, refl, sym}
use Rattle.std.proofs.lemmas.List.{length-take-le, length-drop}
use Rattle.byteorder.specs.Endian.{little_number}
use Rattle.byteorder.specs.Numbers.{little_from-take}
use Rattle.pol_fields.specs.declared.fault.Fault.{Fault}
use Rattle.std.proofs.lemmas.Bool.{ltb-false, eqb-true}
use Rattle.pol_fields.specs.declared.field.Field.{Field}
use Rattle.pol_fields.specs.declared.fault.Cause.{Cause}
use Rattle.pol_fields.specs.declared.fault.Cause.TheVariants.{Short}
use Rattle.pol_cursor.specs.Outcome.{Got, Bad, fault, checked, judged}
use Rattle.pol_cursor.specs.Parts.{num, number, string, unless}
use Rattle.pol_cursor.proofs.Laws.{guard_got, and_then_got, judged_got}
use Rattle.std.proofs.Common.{arith}

pub number_is : (d : Field) (w : ℕ) (bytes : List ℕ) (place n next : ℕ) → number d w bytes place ≡ Got n next → (n ≡ num bytes place w) × (next ≡ place + w) × (next ≤ length bytes)
unfolding number
number_is d w bytes place n next e =
    let g = guard_got (ltb (length bytes) (place + w)) (fault place d Short) (num bytes place w) (place + w) n next e in
    let long : place + w ≤ length bytes = ltb-false _ _ g.0 in
    (sym g.1, sym g.2, omega (arith, g.2))

pub string_is : (d : Field) (k : ℕ) (bytes : List ℕ) (place : ℕ) (s : List ℕ) (next : ℕ) → string d k bytes place ≡ Got s next → (s ≡ take k (drop place bytes)) × (next ≡ place + k) × (next ≤ length bytes)
unfolding string
string_is d k bytes place s next e =
    let g = guard_got (ltb (length bytes) (place + k)) (fault place d Short) (take k (drop place bytes)) (place + k) s next e in
    let long : place + k ≤ length bytes = ltb-false _ _ g.0 in
    (sym g.1, sym g.2, omega (arith, g.2))

-- a number under conditions, which all hold
pub number_if_is : (d : Field) (w : ℕ) (test : ℕ → Option Cause) (bytes : List ℕ) (place n next : ℕ) → checked d (number d w) test bytes place ≡ Got n next → (n ≡ num bytes place w) × (next ≡ place + w) × (next ≤ length bytes) × (test n ≡ None)
number_if_is d w test bytes place n next e =
    let g = and_then_got (number d w bytes place) (λ x next. judged (test x) d x place next) n next e in
    let j = judged_got (test g.0) d g.0 place g.1 n next g.3 in
    let h = number_is d w bytes place g.0 g.1 g.2 in
    (sym j.1 ∙ h.0, sym j.2 ∙ h.1, omega (arith, j.2, h.2), subst (λ (x : ℕ). test x ≡ None) j.1 j.0)

-- ---- a number by the bytes that it was taken from

guard_bad : {A : Type 0} (b : Bool) (d : Fault) (x : A) (next : ℕ) (f : Fault) → cond b (Bad d) (Got x next) ≡ Bad f → (b ≡ true) × (d ≡ f)
guard_bad true d x next f e = (refl, cc)
guard_bad false d x next f e = absurd cc

pub number_of_string : (d : Field) (w : ℕ) (bytes : List ℕ) (place : ℕ) (s : List ℕ) (next : ℕ) → string d w bytes place ≡ Got s next → (number d w bytes place ≡ Got (little_number w s) next) × (length s ≡ w)
unfolding number string num
number_of_string d w bytes place s next e =
    let g = guard_got (ltb (length bytes) (place + w)) (fault place d Short) (take w (drop place bytes)) (place + w) s next e in
    let long : place + w ≤ length bytes = ltb-false _ _ g.0 in
    let rest : w ≤ length (drop place bytes) = omega (arith, length-drop place bytes) in
    (rw (g.0, ← little_from-take 0 w w (drop place bytes) (omega arith), g.1, g.2) refl, rw (← g.1) (length-take-le w (drop place bytes) rest))

pub number_of_short : (d : Field) (w : ℕ) (bytes : List ℕ) (place : ℕ) (f : Fault) → string d w bytes place ≡ Bad f → number d w bytes place ≡ Bad f
unfolding number string
number_of_short d w bytes place f e =
    let g = guard_bad (ltb (length bytes) (place + w)) (fault place d Short) (take w (drop place bytes)) (place + w) f e in
    rw (g.0, g.1) refl

-- ---- conditions that hold

pub unless_none : (holds : Bool) (cause : Cause) → unless holds cause ≡ None → holds ≡ true
unless_none true cause e = refl
unless_none false cause e = absurd cc

-- a number that has to be another
pub unless_is : (n k : ℕ) (cause : Cause) → unless (n == k) cause ≡ None → n ≡ k
unless_is n k cause e = eqb-true n k (unless_none (n == k) cause e)

-- so many bytes from a place that has them
pub length_part : (bytes : List ℕ) (place n : ℕ) → place + n ≤ length bytes → length (take n (drop place bytes)) ≡ n
length_part bytes place n le = length-take-le n (drop place bytes) (omega (arith, length-drop place bytes))
