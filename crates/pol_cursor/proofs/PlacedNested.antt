-- Records that stand one behind the other, by their lengths.
use Rattle.std.proofs.Common.{◌≡◌, ℕ, zero, suc, ◌+◌, List, [], ◌∷◌, refl, sym, ap, ◌∙◌, arith}
use Rattle.pol_cursor.specs.References.{Placed, values_of}
use Rattle.pol_cursor.specs.NestedRecords.{nested_in, nested_end, HasNested, placed_from, length_together}
use Rattle.pol_cursor.proofs.Lists.{placed_in}

-- records without the places that they were given
pub values_placed : {A : Type 0} (length_of : A → ℕ) (place : ℕ) (xs : List A) → values_of (placed_from length_of place xs) ≡ xs
unfolding placed_from
values_placed length_of place [] = refl
values_placed {A} length_of place (x ∷ xs) = ap (λ (ys : List A). x ∷ ys) (values_placed length_of (place + length_of x) xs)

-- a run of records, each of which is as long as it reaches
module _ {A : Type 0} (standing : List ℕ → ℕ → A) (has : List ℕ → ℕ → Type 0) (ends : List ℕ → ℕ → ℕ) (length_of : A → ℕ) (bytes : List ℕ) (reaches : (p : ℕ) → has bytes p → p + length_of (standing bytes p) ≡ ends bytes p) where
  pub nested_placed_by : (place n : ℕ) → HasNested has ends bytes place n → nested_in standing ends bytes place n ≡ placed_from length_of place (values_of (nested_in standing ends bytes place n))
  unfolding nested_in HasNested placed_from
  nested_placed_by place zero h = refl
  nested_placed_by place (suc n) h =
      let others : List (Placed A) = nested_in standing ends bytes (ends bytes place) n in
      ap (λ (rs : List (Placed A)). placed_in standing bytes place ∷ rs)
      (nested_placed_by (ends bytes place) n h.1 ∙ ap (λ (p : ℕ). placed_from length_of p (values_of others)) (sym (reaches place h.0)))

  -- the place behind them
  pub nested_ends_by : (place n : ℕ) → HasNested has ends bytes place n → nested_end ends bytes place n ≡ place + length_together length_of (values_of (nested_in standing ends bytes place n))
  unfolding nested_in nested_end HasNested length_together
  nested_ends_by place zero h = omega arith
  nested_ends_by place (suc n) h = omega (arith, nested_ends_by (ends bytes place) n h.1, reaches place h.0)
