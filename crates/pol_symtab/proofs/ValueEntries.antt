-- The index by value, while the records enter it one after the other.
use Rattle.std.proofs.Common.{◌≡◌, ℕ, zero, suc, ◌<◌, ◌+◌, Bool, true, false, cond, ◌&&◌, List, Option, Some, None, length, take, slice_get, refl, sym, ap, ◌∙◌, subst, nat_eq, inl, inr, ◌⊎◌, arith}
use Rattle.std.specs.Prelude.{slice_set, replicate}
use Rattle.std.specs.List.{position}
use Rattle.std.specs.Option.{option_and_then}
use Rattle.std.proofs.lemmas.Option.{same_Some}
use Rattle.std.proofs.lemmas.Bool.{eqb-true, eqb-false}
use Rattle.std.proofs.lemmas.Bool.Decides.{Decides-eqb}
use Rattle.pol_cursor.specs.References.{Placed}
use Rattle.pol_symtab.specs.SymbolTables.{primary_index, declares}
use Rattle.pol_symtab.specs.Inner.TableIndex.{HaveDistinctValues, IsValueIndex, declared_at, entry_of, joined}
use Rattle.pol_symtab.proofs.Searches.{not_true, position_is, place_of}
use Rattle.pol_symtab.proofs.ListPlaces.{slice_get_take, slice_get_in_take, take_then, slice_get_set, slice_get_set_other, position_more_no}

no_entry : (n value : ℕ) → entry_of (replicate n None) value ≡ None
no_entry zero value = refl
no_entry (suc n) zero = refl
no_entry (suc n) (suc value) = no_entry n value

both-go : (a b : Bool) → (a && b) ≡ true → (a ≡ true) × (b ≡ true)
both-go true b e = (refl, e)
both-go false b e = absurd cc

equal_itself : (a : ℕ) → nat_eq a a ≡ true
equal_itself a = (Decides-eqb a a).1 refl

eq-go : (a b : ℕ) (t : Bool) → nat_eq a b ≡ t → (a ≡ b → ⊥) ⊎ (a ≡ b)
eq-go a b true e = inr (eqb-true a b e)
eq-go a b false e = inl (eqb-false a b e)

declared-go : (primary : Bool) (value v : ℕ) → cond primary (Some value) None ≡ Some v → (primary ≡ true) × (value ≡ v)
declared-go true value v e = (refl, same_Some value v e)
declared-go false value v e = absurd cc

alias-go : (primary : Bool) (value : ℕ) → cond primary (Some value) None ≡ None → primary ≡ false
alias-go true value e = absurd cc
alias-go false value e = refl

module _ {A : Type 0} (is_primary : A → Bool) (value_of : A → ℕ) (records : List (Placed A)) where
  -- no record has entered yet
  pub values_start : (n : ℕ) → IsValueIndex is_primary value_of (take 0 records) (replicate n None)
  unfolding primary_index
  values_start n value = no_entry n value

  -- an alias does not enter
  pub values_same : (by_value : List (Option ℕ)) (i : ℕ) (r : Placed A) → slice_get records i ≡ Some r → is_primary r.value ≡ false → IsValueIndex is_primary value_of (take i records) by_value → IsValueIndex is_primary value_of (take (i + 1) records) by_value
  unfolding primary_index
  values_same by_value i r at alias h value =
      h value ∙ sym (ap (position (declares is_primary value_of value)) (take_then records i r at) ∙ position_more_no (declares is_primary value_of value) (take i records) r (rw alias refl))

  -- a primary record does
  module _ (nprim : ℕ) (values : HaveDistinctValues is_primary value_of nprim records) (by_value : List (Option ℕ)) (long : length by_value ≡ nprim + 1) (i : ℕ) (r : Placed A) (at : slice_get records i ≡ Some r) (yes : is_primary r.value ≡ true) (h : IsValueIndex is_primary value_of (take i records) by_value) where
    pub value_within : value_of r.value < length by_value
    value_within = omega (arith, long, values.within i r at yes)

    own : (value : ℕ) → value_of r.value ≡ value → entry_of (slice_set by_value (value_of r.value) (Some i)) value ≡ primary_index is_primary value_of (take (i + 1) records) value
    unfolding primary_index
    own value e =
        let found : position (declares is_primary value_of value) (take (i + 1) records) ≡ Some i =
        position_is (declares is_primary value_of value) (take (i + 1) records) i r (slice_get_in_take records (i + 1) i (omega arith) ∙ at) (rw (yes, e, equal_itself value) refl)
        (λ j s under is_s.
        let s_at = (slice_get_take records (i + 1) j s is_s).0 in
        not_true (is_primary s.value && nat_eq (value_of s.value) value) (λ both.
        let p = both-go (is_primary s.value) (nat_eq (value_of s.value) value) both in
        cc (values.distinct j i s r under s_at at p.0 yes, p.1, e))) in
        ap joined (subst (λ (v : ℕ). slice_get (slice_set by_value (value_of r.value) (Some i)) v ≡ Some (Some i)) e (slice_get_set by_value (value_of r.value) (Some i) value_within)) ∙ sym found

    another : (value : ℕ) → (value_of r.value ≡ value → ⊥) → entry_of (slice_set by_value (value_of r.value) (Some i)) value ≡ primary_index is_primary value_of (take (i + 1) records) value
    unfolding primary_index
    another value other =
        ap joined (slice_get_set_other by_value (value_of r.value) value (Some i) other) ∙ h value
        ∙ sym (ap (position (declares is_primary value_of value)) (take_then records i r at)
        ∙ position_more_no (declares is_primary value_of value) (take i records) r (not_true (is_primary r.value && nat_eq (value_of r.value) value) (λ both. other (eqb-true (value_of r.value) value (both-go (is_primary r.value) (nat_eq (value_of r.value) value) both).1))))

    go : (value : ℕ) → (value_of r.value ≡ value → ⊥) ⊎ (value_of r.value ≡ value) → entry_of (slice_set by_value (value_of r.value) (Some i)) value ≡ primary_index is_primary value_of (take (i + 1) records) value
    go value (inl other) = another value other
    go value (inr e) = own value e

    pub values_next : IsValueIndex is_primary value_of (take (i + 1) records) (slice_set by_value (value_of r.value) (Some i))
    values_next value = go value (eq-go (value_of r.value) value (nat_eq (value_of r.value) value) refl)

  -- ---- by the value that the record declares

  declared_is : (i : ℕ) (r : Placed A) → slice_get records i ≡ Some r → declared_at is_primary value_of records i ≡ cond (is_primary r.value) (Some (value_of r.value)) None
  declared_is i r at = ap (option_and_then (λ (r : Placed A). cond (is_primary r.value) (Some (value_of r.value)) None)) at

  module _ (by_value : List (Option ℕ)) (i : ℕ) (lt : i < length records) (h : IsValueIndex is_primary value_of (take i records) by_value) where
    pub after_alias : declared_at is_primary value_of records i ≡ None → IsValueIndex is_primary value_of (take (i + 1) records) by_value
    after_alias e =
        let at = place_of records i lt in
        values_same by_value i at.0 at.1 (alias-go (is_primary at.0.value) (value_of at.0.value) (sym (declared_is i at.0 at.1) ∙ e)) h

    module _ (nprim : ℕ) (values : HaveDistinctValues is_primary value_of nprim records) (long : length by_value ≡ nprim + 1) (v : ℕ) (e : declared_at is_primary value_of records i ≡ Some v) where
      pub declared_within : v < length by_value
      declared_within =
          let at = place_of records i lt in
          let d = declared-go (is_primary at.0.value) (value_of at.0.value) v (sym (declared_is i at.0 at.1) ∙ e) in
          subst (λ (n : ℕ). n < length by_value) d.1 (value_within nprim values by_value long i at.0 at.1 d.0 h)

      pub after_primary : IsValueIndex is_primary value_of (take (i + 1) records) (slice_set by_value v (Some i))
      after_primary =
          let at = place_of records i lt in
          let d = declared-go (is_primary at.0.value) (value_of at.0.value) v (sym (declared_is i at.0 at.1) ∙ e) in
          subst (λ (n : ℕ). IsValueIndex is_primary value_of (take (i + 1) records) (slice_set by_value n (Some i))) d.1 (values_next nprim values by_value long i at.0 at.1 d.0 h)
