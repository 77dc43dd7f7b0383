-- Reading does not depend on the bytes before its place: what is read is read in the same way where other bytes stand before it.
use Rattle.std.proofs.Common.{inl, inr, ◌≡◌, ℕ, zero, suc, ◌+◌, Bool, true, false, cond, ltb, Option, Some, None, List, [], ◌∷◌, ◌++◌, length, drop, refl, sym, ap, subst, ◌∙◌, arith}
use Rattle.std.proofs.lemmas.Bool.{cases_lt, lt-ltb, le-ltb}
use Rattle.std.proofs.lemmas.List.{length-append, drop_at, drop-drop}
use Rattle.pol_fields.specs.declared.Field.{Field}
use Rattle.pol_fields.specs.declared.Fault.{Fault}
use Rattle.pol_fields.specs.declared.Cause.{Cause}
use Rattle.pol_cursor.specs.Outcome.{Outcome, Reader, Got, Bad, and_then, ◌>>=◌, done, judged, checked}
use Rattle.pol_cursor.specs.Parts.{num, number, string, list_of, records_at, counted, optional}

-- ---- readers one of which reads farther on what the other reads

-- outcomes of the same value, with the places so many bytes farther on, or both bad
abbrev pub AreMoved : {A : Type 0} → ℕ → Outcome A → Outcome A → Type 0
AreMoved n (Got x next) (Got y after) = (x ≡ y) × (n + next ≡ after)
AreMoved n (Got x next) (Bad g) = ⊥
AreMoved n (Bad f) (Got y after) = ⊥
AreMoved n (Bad f) (Bad g) = Unit {0}

-- what the first reads, the other reads where more bytes stand before it
pub record MovesTo {A : Type 0} (r s : Reader A) : Type 0 where
  pub moves : (before bytes : List ℕ) (place : ℕ) → AreMoved (length before) (r bytes place) (s (before ++ bytes) (length before + place))

-- so does a reader itself
abbrev pub Moves : {A : Type 0} → Reader A → Type 0
Moves r = MovesTo r r

-- ---- parts one after the other

moved-then : {A B : Type 0} (n : ℕ) (f g : A → ℕ → Outcome B) (o p : Outcome A) → AreMoved n o p → ((x : A) (next : ℕ) → AreMoved n (f x next) (g x (n + next))) → AreMoved n (and_then o f) (and_then p g)
moved-then {A} {B} n f g (Got x next) (Got y after) h each =
    let one = subst (λ (z : A). AreMoved n (f x next) (g z (n + next))) h.0 (each x next) in
    subst (λ (m : ℕ). AreMoved n (f x next) (g y m)) h.1 one
moved-then n f g (Got x next) (Bad d) h each = absurd h
moved-then n f g (Bad d) (Got y after) h each = absurd h
moved-then n f g (Bad d) (Bad e) h each = tt

pub moves-done : {A : Type 0} (x : A) → Moves (done x)
moves-done x = record { moves = λ before bytes place. (refl, refl) }

-- a part, and then the others
pub moves-then : {A B : Type 0} {r s : Reader A} {f g : A → Reader B} → MovesTo r s → ((x : A) → MovesTo (f x) (g x)) → MovesTo (r >>= f) (s >>= g)
moves-then {A} {B} {r} {s} {f} {g} first others = record {
  moves = λ before bytes place.
      moved-then (length before) (λ x next. f x bytes next) (λ x next. g x (before ++ bytes) next) (r bytes place) (s (before ++ bytes) (length before + place)) (first.moves before bytes place)
      (λ x next. (others x).moves before bytes next);
}

-- ---- conditions

judged-moved : {A : Type 0} (n place : ℕ) (d : Field) (c : Option Cause) (x : A) (next : ℕ) → AreMoved n (judged c d x place next) (judged c d x (n + place) (n + next))
judged-moved n place d None x next = (refl, refl)
judged-moved n place d (Some c) x next = tt

-- a value under conditions, which the other has too
pub moves-checked_as : {A : Type 0} (d : Field) {r s : Reader A} (test other : A → Option Cause) → MovesTo r s → ((x : A) → test x ≡ other x) → MovesTo (checked d r test) (checked d s other)
moves-checked_as {A} d {r} {s} test other h same = record {
  moves = λ before bytes place.
      let n = length before in
      moved-then n (λ x next. judged (test x) d x place next) (λ x next. judged (other x) d x (n + place) next) (r bytes place) (s (before ++ bytes) (n + place)) (h.moves before bytes place)
      (λ x next. subst (λ (c : Option Cause). AreMoved n (judged (test x) d x place next) (judged c d x (n + place) (n + next))) (same x) (judged-moved n place d (test x) x next));
}

pub moves-checked : {A : Type 0} (d : Field) {r s : Reader A} (test : A → Option Cause) → MovesTo r s → MovesTo (checked d r test) (checked d s test)
moves-checked d test h = moves-checked_as d test test h (λ x. refl)

-- ---- numbers and bytes

drop-moved : (before bytes : List ℕ) (place : ℕ) → drop (length before + place) (before ++ bytes) ≡ drop place bytes
drop-moved before bytes place = sym (drop-drop place (length before) (before ++ bytes)) ∙ ap (λ (u : List ℕ). drop place u) (drop_at before bytes (length before) refl)

short-moved : (before bytes : List ℕ) (place n : ℕ) → ltb (length (before ++ bytes)) (length before + place + n) ≡ ltb (length bytes) (place + n)
short-moved before bytes place n = elim (cases_lt (length bytes) (place + n)) [
  | inl less ↦ lt-ltb (length (before ++ bytes)) (length before + place + n) (omega (arith, less, length-append before bytes)) ∙ sym (lt-ltb (length bytes) (place + n) less)
  | inr most ↦ le-ltb (length (before ++ bytes)) (length before + place + n) (omega (arith, most, length-append before bytes)) ∙ sym (le-ltb (length bytes) (place + n) most)
]

either-moved : {A : Type 0} (n : ℕ) (b : Bool) (f g : Fault) (x : A) (next after : ℕ) → n + next ≡ after → AreMoved n (cond b (Bad f) (Got x next)) (cond b (Bad g) (Got x after))
either-moved n true f g x next after e = tt
either-moved n false f g x next after e = (refl, e)

pub moves-number : (d : Field) (w : ℕ) → Moves (number d w)
unfolding number num
moves-number d w = record {
  moves = λ before bytes place.
      rw (short-moved before bytes place w, drop-moved before bytes place) (either-moved (length before) (ltb (length bytes) (place + w)) _ _ _ (place + w) (length before + place + w) (omega arith));
}

pub moves-string : (d : Field) (n : ℕ) → Moves (string d n)
unfolding string
moves-string d n = record {
  moves = λ before bytes place.
      rw (short-moved before bytes place n, drop-moved before bytes place) (either-moved (length before) (ltb (length bytes) (place + n)) _ _ _ (place + n) (length before + place + n) (omega arith));
}

-- numbers and strings under conditions move
pub moves-number_if : (d : Field) (w : ℕ) (test : ℕ → Option Cause) → Moves (checked d (number d w) test)
moves-number_if d w test = moves-checked d test (moves-number d w)

pub moves-string_if : (d : Field) (n : ℕ) (test : List ℕ → Option Cause) → Moves (checked d (string d n) test)
moves-string_if d n test = moves-checked d test (moves-string d n)

-- ---- optional parts

pub moves-optional : {A : Type 0} (there : Bool) {r : Reader A} → Moves r → Moves (optional there r)
unfolding optional
moves-optional true h = moves-then h λ x. moves-done (Some x)
moves-optional false h = moves-done None

-- ---- lists

pub moves-list_of : {S A : Type 0} (item : ℕ → S → Reader A) (step : S → A → S) → ((left : ℕ) (context : S) → Moves (item left context)) → (n : ℕ) (context : S) → Moves (list_of item step n context)
unfolding list_of
moves-list_of item step each zero context = moves-done []
moves-list_of {S} {A} item step each (suc n) context = moves-then (each n context) λ x. moves-then (moves-list_of item step each n (step context x)) λ xs. moves-done (x ∷ xs)

-- records of which none is read under what another one made
pub moves-records : {A : Type 0} (r : Reader A) → Moves r → (n : ℕ) → Moves (records_at r n)
unfolding records_at
moves-records r h n = moves-list_of {S = Unit {0}} (λ left context. r) (λ context x. context) (λ left context. h) n tt

-- a list behind its count
pub moves-counted : {A : Type 0} (d : Field) (items_at : ℕ → Reader (List A)) → ((n : ℕ) → Moves (items_at n)) → Moves (counted d items_at)
moves-counted d items_at each = moves-then (moves-number d 4) each

pub moves-counted_records : {A : Type 0} (d : Field) (r : Reader A) → Moves r → Moves (counted d (records_at r))
moves-counted_records d r h = moves-counted d (records_at r) (moves-records r h)
