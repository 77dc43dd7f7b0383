-- The records of a table that was read are distinct.
use Rattle.std.proofs.Common.{◌≡◌, ℕ, zero, suc, ◌≤◌, Bool, true, All, List, [], ◌∷◌, subst}
use Rattle.std.proofs.lemmas.List.Elements.{All-nil, All-cons}
use Rattle.std.proofs.lemmas.Option.{get_or_from_slice_get, slice_get_within}
use Rattle.pol_cursor.specs.Outcome.{Got, Reader}
use Rattle.pol_cursor.specs.Parts.{list_of}
use Rattle.pol_cursor.specs.Contexts.{records_after}
use Rattle.pol_cursor.specs.References.{Placed, placed}
use Rattle.pol_cursor.proofs.Laws.{and_then_got}
use Rattle.pol_symtab.specs.Claims.{Claims, claims_after}
use Rattle.pol_symtab.specs.Inner.Freshness.{Gives, IsFresh}
use Rattle.pol_symtab.specs.SymbolTables.{table_head_at, table_records_at, table_at}
use Rattle.pol_symtab.proofs.FreshRecords.{Gives-part, Gives-any, Gives-done}
use Rattle.pol_symtab.proofs.FreshTables.{AreFresh, records_fresh, distinct_names, distinct_values}
use Rattle.info_lines.proofs.ListedOnce.{AreDistinct}

same_value : {A : Type 0} (r s : Placed A) (n m : ℕ) → Got r n ≡ Got s m → r.value ≡ s.value
same_value r s n m e = cc

-- a record with the place where it was read
gives-placed : {A : Type 0} (r : Reader A) (P : A → Type 0) → Gives r P → Gives (placed r) (λ x. P x.value)
unfolding placed
gives-placed r P gives = record {
  each = λ bytes place x next e.
      let g = and_then_got (r bytes place) (λ y next. Got (record { place = place; value = y }) next) x next e in
      subst P (same_value (record { place = place; value = g.0 }) x g.1 next g.3) (gives.each bytes place g.0 g.1 g.2);
}

module _ {S A : Type 0} (reads : S → Reader A) (after : S → A → S) (name_of : A → List ℕ) (is_primary : A → Bool) (value_of : A → ℕ) (nprim_of : S → ℕ) (claims_of : S → Claims) (start : ℕ → S)
    (fresh : (context : S) → Gives (reads context) (λ x. IsFresh (nprim_of context) (claims_of context) (name_of x) (is_primary x) (value_of x)))
    (claimed : (context : S) (x : A) → (claims_of (after context x) ≡ claims_after (claims_of context) (name_of x) (is_primary x) (value_of x)) × (nprim_of (after context x) ≡ nprim_of context))
    (starts : (nprim : ℕ) → nprim_of (start nprim) ≡ nprim) where
  -- a value that is declared is not 0
  abbrev IsFromOne : Placed A → Type 0
  IsFromOne r = is_primary r.value ≡ true → 1 ≤ value_of r.value

  values_least : (n : ℕ) (context : S) → Gives (records_after reads after n context) (All IsFromOne)
  unfolding records_after list_of
  values_least zero context = Gives-done _ [] (All-nil IsFromOne)
  values_least (suc n) context =
      Gives-part (gives-placed (reads context) (λ x. is_primary x ≡ true → 1 ≤ value_of x) (record { each = λ bytes place x next e primary. let new = ((fresh context).each bytes place x next e).value_is_new primary in new.0 })) λ x x-has.
      Gives-part (values_least n (after context x.value)) λ xs xs-have.
      Gives-done _ (x ∷ xs) (All-cons IsFromOne x xs x-has xs-have)

  records_distinct : (nprim nel : ℕ) → Gives (records_after reads after nel (start nprim)) (λ records. AreDistinct name_of is_primary value_of nprim records)
  records_distinct nprim nel = record {
    each = λ bytes place rs next e.
        let are : AreFresh name_of is_primary value_of nprim (claims_of (start nprim)) rs =
        subst (λ (n : ℕ). AreFresh name_of is_primary value_of n (claims_of (start nprim)) rs) (starts nprim)
        (records_fresh reads after name_of is_primary value_of nprim_of claims_of fresh claimed nel (start nprim) bytes place rs next e) in
        record {
          names = distinct_names name_of is_primary value_of nprim (claims_of (start nprim)) rs are;
          values = distinct_values name_of is_primary value_of nprim (claims_of (start nprim)) rs are;
          least = λ i r at. subst IsFromOne (get_or_from_slice_get rs i r r at) ((values_least nel (start nprim)).each bytes place rs next e i r (slice_get_within rs i r at));
        };
  }

  pub table_distinct : Gives (table_at reads after start) (λ table. AreDistinct name_of is_primary value_of table.nprim table.records)
  unfolding table_at table_records_at
  table_distinct =
      Gives-part (Gives-any table_head_at) λ head known.
      Gives-part (records_distinct head.nprim head.nel) λ records are.
      Gives-done _ (record { nprim = head.nprim; records = records }) are
