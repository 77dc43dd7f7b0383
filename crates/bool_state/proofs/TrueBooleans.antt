-- The booleans that are true, record by record.
use Rattle.std.proofs.Common.{◌≡◌, ℕ, ◌+◌, ◌≤◌, length, true, false, Some, List, [], ◌∷◌, ◌++◌, refl, sym, ap, ◌∙◌}
use Rattle.std.specs.Prelude.{take, map, slice_get}
use Rattle.std.specs.List.{filter}
use Rattle.std.proofs.lemmas.List.{append-nil, map-append, take_all}
use Rattle.std.proofs.lemmas.List.Elements.{filter-append}
use Rattle.pol_cursor.specs.References.{Placed}
use Rattle.pol_datums.specs.declared.BooleanRec.{BooleanRec}
use Rattle.pol_symtab.proofs.ListPlaces.{take_then}
use Rattle.bool_state.specs.declared.given.Given.{Given}
use Rattle.bool_state.specs.BooleanStates.{is_on, values_on}

module _ (given : List Given) where
  -- ---- of one record

  pub values_none : values_on given [] ≡ []
  unfolding values_on
  values_none = refl

  pub one_more : (b : Placed BooleanRec) (out : List ℕ) → is_on given b.value ≡ true → out ++ b.value.value ∷ [] ≡ out ++ values_on given (b ∷ [])
  unfolding values_on
  one_more b out e = rw e refl

  pub no_more : (b : Placed BooleanRec) (out : List ℕ) → is_on given b.value ≡ false → out ≡ out ++ values_on given (b ∷ [])
  unfolding values_on
  no_more b out e = rw e (sym (append-nil out))

  -- ---- of all

  values_on-append : (xs ys : List (Placed BooleanRec)) → values_on given (xs ++ ys) ≡ values_on given xs ++ values_on given ys
  unfolding values_on
  values_on-append xs ys =
      ap (map (λ (b : Placed BooleanRec). b.value.value)) (filter-append (λ (b : Placed BooleanRec). is_on given b.value) xs ys)
      ∙ map-append (λ (b : Placed BooleanRec). b.value.value) (filter (λ (b : Placed BooleanRec). is_on given b.value) xs) (filter (λ (b : Placed BooleanRec). is_on given b.value) ys)

  -- the values of the booleans so far, and of one more
  pub values_next : (xs : List (Placed BooleanRec)) (i : ℕ) (x : Placed BooleanRec) (out : List ℕ) → slice_get xs i ≡ Some x → out ≡ values_on given (take i xs) → out ++ values_on given (x ∷ []) ≡ values_on given (take (i + 1) xs)
  values_next xs i x out e h =
      ap (λ (l : List ℕ). l ++ values_on given (x ∷ [])) h ∙ sym (ap (values_on given) (take_then xs i x e) ∙ values_on-append (take i xs) (x ∷ []))

  pub values_end : (xs : List (Placed BooleanRec)) (i : ℕ) (out : List ℕ) → length xs ≤ i → out ≡ values_on given (take i xs) → out ≡ values_on given xs
  values_end xs i out le h = h ∙ ap (values_on given) (take_all i xs le)
