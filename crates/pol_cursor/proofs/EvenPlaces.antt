-- Places that lie as far apart.
use Rattle.std.proofs.Common.{◌≡◌, ℕ, zero, suc, ◌+◌, ◌*◌, ◌^◌, ◌<◌, ◌≤◌, Some, List, [], ◌∷◌, ◌++◌, length, slice_get, refl, ap, subst, ◌∙◌, arith}
use Rattle.std.proofs.lemmas.Nat.{mul-le}
use Rattle.std.proofs.lemmas.List.{append-nil}
use Rattle.std.specs.Prelude.{map, option_map}
use Rattle.std.specs.List.{AllByRecursion}
use Rattle.std.proofs.lemmas.Option.{slice_get-map}
use Rattle.pol_cursor.specs.Inner.EvenPlaces.{even_places}

pub even_length : (step place n : ℕ) → length (even_places step place n) ≡ n
unfolding even_places
even_length step place zero = refl
even_length step place (suc n) = ap suc (even_length step (place + step) n)

pub even_at : (step place n i : ℕ) → i < n → slice_get (even_places step place n) i ≡ Some (place + i * step)
unfolding even_places
even_at step place zero i lt = absurd (omega (arith, lt))
even_at step place (suc n) zero lt = let e : place + 0 * step ≡ place = omega arith in rw e refl
even_at step place (suc n) (suc i) lt =
    let e : place + step + i * step ≡ place + suc i * step = omega arith in
    rw (← e) (even_at step (place + step) n i (omega (arith, lt)))

pub even_small : (step place n i : ℕ) → i < n → place + n * step < 2 ^ 32 → (i * step < 2 ^ 32) × (place + i * step < 2 ^ 32)
even_small step place n i lt small =
    let less : i * step ≤ n * step = mul-le i step n step (omega (arith, lt)) (omega arith) in
    (omega (arith, less, small), omega (arith, less, small))

-- ---- places of both kinds, one behind the other

pub get_first : (evens listed : List ℕ) (i p : ℕ) → slice_get evens i ≡ Some p → slice_get (evens ++ listed) i ≡ Some p
get_first [] listed i p e = absurd cc
get_first (x ∷ xs) listed zero p e = e
get_first (x ∷ xs) listed (suc i) p e = get_first xs listed i p e

pub get_later : (evens listed : List ℕ) (i j p : ℕ) → i ≡ length evens + j → slice_get listed j ≡ Some p → slice_get (evens ++ listed) i ≡ Some p
get_later [] listed i j p at e = ap (slice_get listed) (omega (arith, at)) ∙ e
get_later (x ∷ xs) listed zero j p at e = absurd (omega (arith, at))
get_later (x ∷ xs) listed (suc i) j p at e = get_later xs listed i j p (omega (arith, at)) e

pub nothing_behind : (evens : List ℕ) → evens ++ [] ≡ evens
nothing_behind evens = append-nil evens

-- what is so of each place is so of the one of a number
pub all_at : (P : ℕ → Type 0) (places : List ℕ) (i place : ℕ) → AllByRecursion P places → slice_get places i ≡ Some place → P place
all_at P [] i place all e = absurd cc
all_at P (x ∷ xs) zero place all e = let same : x ≡ place = cc in subst P same all.0
all_at P (x ∷ xs) (suc i) place all e = all_at P xs i place all.1 e

pub mapped_at : {A : Type 0} (f : ℕ → A) (places : List ℕ) (i place : ℕ) → slice_get places i ≡ Some place → slice_get (map f places) i ≡ Some (f place)
mapped_at f places i place e = slice_get-map f places i ∙ ap (option_map f) e
