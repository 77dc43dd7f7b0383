-- Texts that are written one behind the other.
use Rattle.std.proofs.Common.{◌≡◌, ℕ, ◌+◌, ◌<◌, List, [], ◌∷◌, ◌++◌, length, take, drop, get_or, subst, Result, Ok, Err, refl, sym, ap, ◌∙◌, append_assoc}
use Rattle.std.specs.List.{flat_map}
use Rattle.std.specs.declared.alloc.AllocError.{AllocError}
use Rattle.std.proofs.lemmas.List.{append-nil, take_more, take-append-drop}
use Rattle.std.proofs.lemmas.List.Concat.{flat_map-append}
use Rattle.pol_cursor.specs.Writing.{GainsFront, Writes}

-- nothing was written
pub gains_nothing : (old new text : List ℕ) → new ≡ old → GainsFront old new text
gains_nothing old new text e = record { front = []; rest = text; whole = refl; gained = e ∙ sym (append-nil old) }

-- a beginning of the first text was written
pub gains_first : (old new first second : List ℕ) → GainsFront old new first → GainsFront old new (first ++ second)
gains_first old new first second g = record { front = g.front; rest = g.rest ++ second; whole = ap (λ (t : List ℕ). t ++ second) g.whole ∙ append_assoc g.front g.rest second; gained = g.gained }

-- the first text was written, and a beginning of the second one
pub gains_second : (old mid new first second : List ℕ) → mid ≡ old ++ first → GainsFront mid new second → GainsFront old new (first ++ second)
gains_second old mid new first second e g = record {
  front = first ++ g.front;
  rest = g.rest;
  whole = ap (λ (t : List ℕ). first ++ t) g.whole ∙ sym (append_assoc first g.front g.rest);
  gained = g.gained ∙ ap (λ (m : List ℕ). m ++ g.front) e ∙ append_assoc old first g.front;
}

-- the first text was written, and then the second one or a beginning of it
pub writes_second : (old mid new first second : List ℕ) (result : Result (Unit {0}) AllocError) → mid ≡ old ++ first → Writes mid new second result → Writes old new (first ++ second) result
writes_second old mid new first second (Ok u) e w = w ∙ ap (λ (m : List ℕ). m ++ second) e ∙ append_assoc old first second
writes_second old mid new first second (Err x) e w = gains_second old mid new first second e w

-- ---- the texts of a list

module _ {A : Type 0} (spell : A → List ℕ) (xs : List A) where
  front_next : (i : ℕ) (d : A) → i < length xs → flat_map spell (take (i + 1) xs) ≡ flat_map spell (take i xs) ++ spell (get_or xs i d)
  front_next i d lt = ap (flat_map spell) (take_more xs i d lt) ∙ flat_map-append spell (take i xs) (get_or xs i d ∷ []) ∙ ap (λ (t : List ℕ). flat_map spell (take i xs) ++ t) (append-nil (spell (get_or xs i d)))

  -- a beginning of one of them was written
  pub listed_fails : (old now new : List ℕ) (i : ℕ) (d x : A) → i < length xs → x ≡ get_or xs i d → now ≡ old ++ flat_map spell (take i xs) → GainsFront now new (spell x) → GainsFront old new (flat_map spell xs)
  listed_fails old now new i d x lt is before one =
      let whole : flat_map spell xs ≡ flat_map spell (take (i + 1) xs) ++ flat_map spell (drop (i + 1) xs) = ap (flat_map spell) (sym (take-append-drop (i + 1) xs)) ∙ flat_map-append spell (take (i + 1) xs) (drop (i + 1) xs) in
      let here = subst (λ (y : A). GainsFront now new (spell y)) is one in
      let first = gains_second old now new (flat_map spell (take i xs)) (spell (get_or xs i d)) before here in
      rw (whole, front_next i d lt) (gains_first old new (flat_map spell (take i xs) ++ spell (get_or xs i d)) (flat_map spell (drop (i + 1) xs)) first)
