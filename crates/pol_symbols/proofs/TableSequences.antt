-- Tables that are read one behind the other.
use Rattle.std.proofs.Common.{◌≡◌, ℕ, List, ◌∙◌, ap, sym}
use Rattle.pol_cursor.specs.declared.ReadError.{ReadError}
use Rattle.pol_cursor.specs.declared.ReadError.TheVariants as errors
use Rattle.pol_cursor.specs.Outcome.{Outcome, Position, Got, Reader, and_then, Fails, ◌>>=◌}

fails_first : {A B : Type 0} (e : ReadError) (o : Outcome A) (f : A → ℕ → Outcome B) → Fails e o → Fails e (and_then o f)
fails_first errors.Memory o f h = tt
fails_first (errors.Fault fault) o f h = ap (λ o. and_then o f) h

-- the second of two parts is refused, or there is no memory for it
pub fails_second : {A B C : Type 0} (first : Reader A) (second : Reader B) (make : A → B → Reader C) (old mid : Position) (x : A) (e : ReadError) → (first old.bytes old.place ≡ Got x mid.place) × (mid.bytes ≡ old.bytes) → Fails e (second mid.bytes mid.place)
    → Fails e ((first >>= λ x. second >>= λ y. make x y) old.bytes old.place)
fails_second {A} {B} {C} first second make old mid x e read h =
    let whole : (first >>= λ x. second >>= λ y. make x y) old.bytes old.place ≡ and_then (second mid.bytes mid.place) (λ y next. make x y mid.bytes next) =
    ap (λ (o : Outcome A). and_then o (λ x next. and_then (second old.bytes next) (λ y n. make x y old.bytes n))) read.0 ∙ ap (λ (b : List ℕ). and_then (second b mid.place) (λ y n. make x y b n)) (sym read.1) in
    rw whole (fails_first e (second mid.bytes mid.place) (λ y next. make x y mid.bytes next) h)
