-- How the lists of aliases grow.
use Rattle.std.proofs.Common.{◌≡◌, ℕ, zero, suc, ◌+◌, ◌<◌, Bool, true, false, List, [], ◌∷◌, ◌++◌, Some, length, take, refl, sym, ap, ◌∙◌, append-nil, inl, inr, arith}
use Rattle.std.specs.Prelude.{nat_eq, slice_get, slice_index_or, slice_set}
use Rattle.std.specs.List.{filter}
use Rattle.std.proofs.lemmas.Bool.{cases_Bool, cases_eq, eq-eqb, ne_eqb}
use Rattle.std.proofs.lemmas.Grind.{get_or-set_at}
use Rattle.std.proofs.lemmas.List.{get_or-set_other, map-append}
use Rattle.std.proofs.lemmas.List.Elements.{filter-append}
use Rattle.std.proofs.lemmas.Option.{slice_get_within, get_or_from_slice_get}
use Rattle.std.proofs.Math.Seq.{take-suc}
use Rattle.pol_cursor.specs.References.{Placed}
use Rattle.info_symbols.specs.Inner.AliasLists.{SameLists, Gains, GainsRecord, AreListed, gain}
use Rattle.info_symbols.specs.Aliases.{aliases_among, is_alias_of}

pub same_more : (lists : List (List (List ℕ))) → SameLists lists (lists ++ [] ∷ [])
same_more [] zero = refl
same_more [] (suc v) = refl
same_more (x ∷ xs) zero = refl
same_more (x ∷ xs) (suc v) = same_more xs v

-- a list that gained a name stands in place of its list
pub gains_put : (value : ℕ) (name : List ℕ) (old lists : List (List (List ℕ))) (list : List (List ℕ)) → SameLists old lists → value < length lists → list ≡ slice_index_or lists value [] ++ name ∷ [] → Gains value name old (slice_set lists value list)
gains_put value name old lists list same within is = record {
  each = λ v. elim (cases_eq value v) [
    | inl e ↦ rw (eq-eqb value v e) (get_or-set_at lists value v list [] (sym e) within ∙ is ∙ ap (λ (n : ℕ). slice_index_or lists n [] ++ name ∷ []) e ∙ ap (λ (names : List (List ℕ)). names ++ name ∷ []) (same v))
    | inr ne ↦ rw (ne_eqb value v ne) (get_or-set_other lists value v list [] (λ e. ne (sym e)) ∙ same v ∙ sym (append-nil (slice_index_or old v [])))
  ];
}

taken : {A : Type 0} (xs : List A) (n : ℕ) (x : A) → slice_get xs n ≡ Some x → take (n + 1) xs ≡ take n xs ++ x ∷ []
taken xs n x at =
    let e : n + 1 ≡ suc n = omega arith in
    rw e (take-suc xs n x (slice_get_within xs n x at) ∙ ap (λ y. take n xs ++ y ∷ []) (get_or_from_slice_get xs n x x at))

module _ {A : Type 0} (name_of : A → List ℕ) (is_primary : A → Bool) (value_of : A → ℕ) where
  pub no_gain : (r : Placed A) (lists : List (List (List ℕ))) → is_primary r.value ≡ true → GainsRecord name_of is_primary value_of r lists lists
  unfolding aliases_among
  no_gain r lists primary = record { each = λ v. rw primary (sym (append-nil (slice_index_or lists v []))) }

  one_alias : (r : Placed A) (v : ℕ) → is_primary r.value ≡ false → aliases_among name_of is_primary value_of (r ∷ []) v ≡ gain v (value_of r.value) (name_of r.value)
  unfolding aliases_among
  one_alias r v not_primary = elim (cases_Bool (nat_eq (value_of r.value) v)) [
    | inl e ↦ rw (not_primary, e) refl
    | inr e ↦ rw (not_primary, e) refl
  ]

  pub alias_gained : (r : Placed A) (value : ℕ) (name : List ℕ) (old new : List (List (List ℕ))) → is_primary r.value ≡ false → value ≡ value_of r.value → name ≡ name_of r.value → Gains value name old new → GainsRecord name_of is_primary value_of r old new
  alias_gained r value name old new not_primary is named h = record {
    each = λ v. h.each v ∙ rw (is, named, one_alias r v not_primary) refl;
  }

  pub none_listed : AreListed name_of is_primary value_of [] []
  unfolding aliases_among
  none_listed = record { each = λ v. refl }

  more : (records : List (Placed A)) (n : ℕ) (r : Placed A) (v : ℕ) → slice_get records n ≡ Some r → aliases_among name_of is_primary value_of (take (n + 1) records) v ≡ aliases_among name_of is_primary value_of (take n records) v ++ aliases_among name_of is_primary value_of (r ∷ []) v
  unfolding aliases_among
  more records n r v at =
      let p = is_alias_of is_primary value_of v in
      rw (taken records n r at, filter-append p (take n records) (r ∷ [])) (map-append (λ (x : Placed A). name_of x.value) (filter p (take n records)) (filter p (r ∷ [])))

  pub next_listed : (records : List (Placed A)) (n : ℕ) (r : Placed A) (old new : List (List (List ℕ))) → slice_get records n ≡ Some r → AreListed name_of is_primary value_of (take n records) old → GainsRecord name_of is_primary value_of r old new → AreListed name_of is_primary value_of (take (n + 1) records) new
  next_listed records n r old new at h g = record {
    each = λ v. g.each v ∙ ap (λ (names : List (List ℕ)). names ++ aliases_among name_of is_primary value_of (r ∷ []) v) (h.each v) ∙ sym (more records n r v at);
  }
