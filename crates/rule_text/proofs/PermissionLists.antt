-- Lists that are made one after the other, each for an element of another list.
use Rattle.std.proofs.Common.{◌≡◌, ℕ, ◌+◌, ◌<◌, List, [], ◌∷◌, ◌++◌, Some, length, get_or, slice_get, inl, inr, refl, sym, ap, ◌∙◌, subst, arith, length-append}
use Rattle.std.specs.Prelude.{◌==◌}
use Rattle.std.proofs.lemmas.Bool.{cases_Bool, eqb-true, eqb-false}
use Rattle.std.proofs.lemmas.List.{get_or_append_left}
use Rattle.std.proofs.lemmas.Option.{slice_get_within}
use Rattle.std.proofs.Math.Seq.{get_or-append_seam}

module _ {A B : Type 0} (Fits : A → B → Type 0) (none : B) (xs : List A) where
  -- Each of the first n has its own among the others.
  pub record FirstFit (n : ℕ) (ys : List B) : Type 0 where
    pub count : length ys ≡ n
    pub each : (i : ℕ) (x : A) → i < n → slice_get xs i ≡ Some x → Fits x (get_or ys i none)

  pub first_none : FirstFit 0 []
  first_none = record { count = refl; each = λ i x lt at. absurd (omega arith) }

  there : (n : ℕ) (x : A) (ys : List B) (y : B) → FirstFit n ys → slice_get xs n ≡ Some x → Fits x y → (i : ℕ) (z : A) → i < n + 1 → slice_get xs i ≡ Some z → Fits z (get_or (ys ++ y ∷ []) i none)
  there n x ys y h at fits i z lt is = elim (cases_Bool (i == n)) [
    | inl t ↦
        let e : i ≡ n = eqb-true i n t in
        let len : i ≡ length ys = e ∙ sym h.count in
        let both : Some x ≡ Some z = sym at ∙ ap (slice_get xs) (sym e) ∙ is in
        let same : x ≡ z = cc in
        rw (len, get_or-append_seam) (subst (λ (a : A). Fits a y) same fits)
    | inr f ↦
        let ne : i ≡ n → ⊥ = eqb-false i n f in
        let below : i < n = omega arith in
        let within : i < length ys = omega (arith, h.count) in
        rw get_or_append_left (h.each i z below is)
  ]

  pub first_more : (n : ℕ) (x : A) (ys : List B) (y : B) → FirstFit n ys → slice_get xs n ≡ Some x → Fits x y → FirstFit (n + 1) (ys ++ y ∷ [])
  first_more n x ys y h at fits = record { count = omega (arith, h.count, length-append ys (y ∷ [])); each = there n x ys y h at fits }

  pub all_fit : (ys : List B) → FirstFit (length xs) ys → (i : ℕ) (x : A) → slice_get xs i ≡ Some x → Fits x (get_or ys i none)
  all_fit ys h i x at = h.each i x (slice_get_within xs i x at) at
