-- Records that stand one behind the other, without their places.
use Rattle.std.proofs.Common.{◌≡◌, ◌≢◌, ℕ, zero, suc, ◌+◌, ◌-◌, ◌<◌, List, [], ◌∷◌, ◌++◌, length, refl, ap, ◌∙◌, add-one}
use Rattle.std.specs.Prelude.{slice_get, Some, option_map, map}
use Rattle.std.proofs.lemmas.List.{length-map, map_push}
use Rattle.std.proofs.lemmas.Option.{slice_get-map}
use Rattle.pol_cursor.specs.References.{Placed, values_of}
use Rattle.pol_cursor.specs.NestedRecords.{nested_in, nested_end, HasNested}
use Rattle.pol_cursor.proofs.Lists.{placed_in}
use Rattle.pol_cursor.proofs.NestedLists.{length_nested_in, get_nested_in, nested_first}

module _ {A : Type 0} (standing : List ℕ → ℕ → A) (ends : List ℕ → ℕ → ℕ) (bytes : List ℕ) where
  pub length_values_in : (place n : ℕ) → length (values_of (nested_in standing ends bytes place n)) ≡ n
  length_values_in place n = length-map (nested_in standing ends bytes place n) (λ (r : Placed A). r.value) ∙ length_nested_in standing ends bytes place n

  pub get_values_in : (place n i : ℕ) → i < n → slice_get (values_of (nested_in standing ends bytes place n)) i ≡ Some (standing bytes (nested_end ends bytes place i))
  get_values_in place n i lt = slice_get-map (λ (r : Placed A). r.value) (nested_in standing ends bytes place n) i ∙ ap (option_map (λ (r : Placed A). r.value)) (get_nested_in standing ends bytes place n i lt)

  -- the first of them, and the others
  pub values_first : (has : List ℕ → ℕ → Type 0) (place n : ℕ) → n ≢ 0 → values_of (nested_in standing ends bytes place n) ≡ standing bytes place ∷ values_of (nested_in standing ends bytes (ends bytes place) (n - 1))
  values_first has place n some = ap (map (λ (r : Placed A). r.value)) (nested_first standing has ends bytes place n some)

  nested_in-suc : (place n : ℕ) → nested_in standing ends bytes place (suc n) ≡ nested_in standing ends bytes place n ++ placed_in standing bytes (nested_end ends bytes place n) ∷ []
  unfolding nested_in nested_end
  nested_in-suc place zero = refl
  nested_in-suc place (suc n) = ap (λ (rs : List (Placed A)). placed_in standing bytes place ∷ rs) (nested_in-suc (ends bytes place) n)

  -- one more of them
  pub values_next : (place n : ℕ) → values_of (nested_in standing ends bytes place (n + 1)) ≡ values_of (nested_in standing ends bytes place n) ++ standing bytes (nested_end ends bytes place n) ∷ []
  values_next place n = rw add-one (ap (map (λ (r : Placed A). r.value)) (nested_in-suc place n) ∙ map_push (λ (r : Placed A). r.value) (nested_in standing ends bytes place n) (placed_in standing bytes (nested_end ends bytes place n)))

module _ (has : List ℕ → ℕ → Type 0) (ends : List ℕ → ℕ → ℕ) (bytes : List ℕ) where
  HasNested-suc : (place n : ℕ) → HasNested has ends bytes place n → has bytes (nested_end ends bytes place n) → HasNested has ends bytes place (suc n)
  unfolding HasNested nested_end
  HasNested-suc place zero h one = (one, tt)
  HasNested-suc place (suc n) h one = (h.0, HasNested-suc (ends bytes place) n h.1 one)

  pub run_has_next : (place n : ℕ) → HasNested has ends bytes place n → has bytes (nested_end ends bytes place n) → HasNested has ends bytes place (n + 1)
  run_has_next place n h one = rw add-one (HasNested-suc place n h one)
