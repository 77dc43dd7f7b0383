-- Runs of numbers, one number after the other.
use Rattle.std.proofs.Common.{◌≡◌, ℕ, zero, suc, ◌+◌, ◌-◌, ◌≤◌, List, [], ◌∷◌, ◌++◌, true, false, inl, inr, refl, sym, ap, ◌∙◌, add-one, arith}
use Rattle.std.specs.Prelude.{◌==◌}
use Rattle.std.specs.List.{range_with_len}
use Rattle.std.proofs.lemmas.List.{append-nil}
use Rattle.std.proofs.lemmas.Bool.{cases_Bool, eqb-true, eqb-false, eq-eqb, ne_eqb}
use Rattle.pol_mls.specs.MlsTexts.{with_value, runs_of}

-- The runs of values of which there is one begin with it.
pub record Start (v : ℕ) (runs : List (List ℕ)) : Type 0 where
  pub first : List ℕ
  pub others : List (List ℕ)
  pub are : runs ≡ (v ∷ first) ∷ others

pub start : (v : ℕ) (runs : List (List ℕ)) → Start v (with_value v runs)
start v [] = record { first = []; others = []; are = refl }
start v ([] ∷ runs) = record { first = []; others = runs; are = refl }
start v ((w ∷ ws) ∷ runs) = elim (cases_Bool (w == v + 1)) [
  | inl t ↦ record { first = w ∷ ws; others = runs; are = rw t refl }
  | inr f ↦ record { first = []; others = (w ∷ ws) ∷ runs; are = rw f refl }
]

joined : (v : ℕ) (ws : List ℕ) (runs : List (List ℕ)) → with_value v (((v + 1) ∷ ws) ∷ runs) ≡ (v ∷ (v + 1) ∷ ws) ∷ runs
joined v ws runs = rw (eq-eqb (v + 1) (v + 1) refl) refl

cut : (v w : ℕ) (ws : List ℕ) (others runs : List (List ℕ)) → runs ≡ (w ∷ ws) ∷ others → (w ≡ v + 1 → ⊥) → with_value v runs ≡ (v ∷ []) ∷ runs
cut v w ws others runs e ne = rw (e, ne_eqb w (v + 1) ne) refl

-- a run, and a value that does not go on with it
run_cut : (a n v : ℕ) (vs : List ℕ) → (v ≡ a + suc n → ⊥) → runs_of (range_with_len a (suc n) ++ v ∷ vs) ≡ range_with_len a (suc n) ∷ runs_of (v ∷ vs)
run_cut a zero v vs ne =
    let s = start v (runs_of vs) in
    cut a v s.first s.others (runs_of (v ∷ vs)) s.are ne
run_cut a (suc n) v vs ne =
    ap (with_value a) (run_cut (a + 1) n v vs (λ e. ne (omega arith))) ∙ joined a (range_with_len (a + 1 + 1) n) (runs_of (v ∷ vs))

-- one run alone
run_alone : (a n : ℕ) → runs_of (range_with_len a (suc n)) ≡ range_with_len a (suc n) ∷ []
run_alone a zero = refl
run_alone a (suc n) = ap (with_value a) (run_alone (a + 1) n) ∙ joined a (range_with_len (a + 1 + 1) n) []

-- a value that goes on with a run
range_on : (a n v : ℕ) (vs : List ℕ) → a + n ≡ v → range_with_len a n ++ v ∷ vs ≡ range_with_len a (suc n) ++ vs
range_on a zero v vs e = ap (λ (x : ℕ). x ∷ vs) (omega arith)
range_on a (suc n) v vs e = ap (λ (xs : List ℕ). a ∷ xs) (range_on (a + 1) n v vs (omega arith))

-- ---- the runs of what is left

-- numbers that begin with one that goes on with the run
pub numbers_on : (first last v : ℕ) (vs : List ℕ) → first ≤ last → (last + 1 == v) ≡ true → range_with_len first (v - first + 1) ++ vs ≡ range_with_len first (last - first + 1) ++ v ∷ vs
numbers_on first last v vs le t =
    let e : last + 1 ≡ v = eqb-true (last + 1) v t in
    let more : v - first + 1 ≡ suc (last - first + 1) = omega arith in
    rw more (sym (range_on first (last - first + 1) v vs (omega arith)))

-- a number alone is a run
pub numbers_start : (first last v : ℕ) (vs : List ℕ) → first ≡ v → last ≡ v → range_with_len first (last - first + 1) ++ vs ≡ v ∷ vs
numbers_start first last v vs e f =
    let none : last - first ≡ 0 = omega arith in
    rw (none, e) refl

-- numbers that begin with one that does not go on with the run
pub runs_cut : (first last v : ℕ) (vs : List ℕ) → first ≤ last → (last + 1 == v) ≡ false → runs_of (range_with_len first (last - first + 1) ++ v ∷ vs) ≡ range_with_len first (last - first + 1) ∷ runs_of (v ∷ vs)
runs_cut first last v vs le f =
    let ne : last + 1 ≡ v → ⊥ = eqb-false (last + 1) v f in
    rw add-one (run_cut first (last - first) v vs (λ e. ne (omega arith)))

pub runs_alone : (first last : ℕ) → runs_of (range_with_len first (last - first + 1) ++ []) ≡ range_with_len first (last - first + 1) ∷ []
runs_alone first last = ap runs_of (append-nil (range_with_len first (last - first + 1))) ∙ rw add-one (run_alone first (last - first))
