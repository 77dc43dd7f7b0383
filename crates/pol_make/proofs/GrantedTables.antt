-- Lists and tables of records, seen without the places of the records, are read where each record is.
use Rattle.std.proofs.Common.{◌≡◌, ℕ, ◌<◌, ◌≤◌, ◌^◌, None, List, [], ◌++◌, length, refl, append_assoc, arith}
use Rattle.std.specs.List.{flat_map, AllByRecursion}
use Rattle.std.proofs.lemmas.List.{append-nil}
use Rattle.std.proofs.lemmas.Bool.{le-leb}
use Rattle.pol_fields.specs.declared.Field.{Field}
use Rattle.pol_fields.specs.declared.field.Field.{Field}
use Rattle.pol_fields.specs.declared.fields.TheConstants.{TABLE_NPRIM, TABLE_NEL}
use Rattle.pol_cursor.specs.Outcome.{Reader}
use Rattle.pol_cursor.specs.Parts.{number, list_of, records_at, counted, spell_counted}
use Rattle.pol_cursor.specs.References.{Placed, placed, values_of}
use Rattle.pol_cursor.specs.Contexts.{records_after}
use Rattle.pol_cursor.specs.Spelling.{bytes_of}
use Rattle.pol_cursor.proofs.Lists.{records_unplaced}
use Rattle.pol_cursor.proofs.ContextLists.{records_after_unplaced}
use Rattle.pol_symtab.specs.SymbolTables.{Table, BareTable, bare, nprim_test, table_head_at, table_at, bare_table_at, spell_table}
use Rattle.pol_symtab.proofs.TableLaws.{table_unplaced}
use Rattle.pol_write.proofs.ListFindings.{counted_unplaced}
use Rattle.pol_moved.proofs.Granted.{Grants, GrantsOf, EachUnder, grants-done, grants-then, grants-as, grants-number, grants-number_if, grants-list_of, grants-records, grants-counted, grants-through}

-- the values that are read, without their places, are these
abbrev pub GrantsValues : {A : Type 0} → Reader (List (Placed A)) → List A → List ℕ → Type 0
GrantsValues r xs text = Grants r (λ records. values_of records ≡ xs) text

-- the table that is read, without the places of its records, is this one
abbrev pub GrantsBare : {A : Type 0} → Reader (Table A) → BareTable A → List ℕ → Type 0
GrantsBare r table text = Grants r (λ read. bare read ≡ table) text

-- ---- lists

-- records that are read under what the ones before them made of a context, without their count
pub grants-rows : {S A : Type 0} (record_at : S → Reader A) (after : S → A → S) (spell : A → List ℕ) (may : ℕ → S → A → Type 0) → ((left : ℕ) (context : S) (x : A) → may left context x → GrantsOf (record_at context) x (spell x)) → (xs : List A) (context : S) → EachUnder may after context xs
    → GrantsValues (records_after record_at after (length xs) context) xs (flat_map spell xs)
grants-rows record_at after spell may each xs context h =
    grants-through (records_after record_at after (length xs) context) (list_of (λ left context. record_at context) after (length xs) context) (λ records. values_of records) (λ ys. ys ≡ xs) (flat_map spell xs)
    (λ bytes place. records_after_unplaced record_at after (length xs) context bytes place)
    (grants-list_of (λ left context. record_at context) after spell may each xs context h)

-- records that are read alone, behind their count
pub grants-entries : {A : Type 0} (d : Field) (record_at : Reader A) (spell : A → List ℕ) (may : A → Type 0) → ((x : A) → may x → GrantsOf record_at x (spell x)) → (xs : List A) → length xs < 2 ^ 32 → AllByRecursion may xs
    → GrantsValues (counted d (records_at (placed record_at))) xs (spell_counted spell xs)
grants-entries d record_at spell may each xs few all =
    grants-through (counted d (records_at (placed record_at))) (counted d (records_at record_at)) (λ records. values_of records) (λ ys. ys ≡ xs) (spell_counted spell xs)
    (λ bytes place. counted_unplaced bytes (records_at (placed record_at)) (records_at record_at) (λ n next. records_unplaced record_at n bytes next) (number d 4 bytes place))
    (grants-counted d (records_at record_at) spell xs few (grants-records record_at spell may each xs all))

-- no record
pub grants-no_entries : {A : Type 0} (d : Field) (record_at : Reader A) (spell : A → List ℕ) → GrantsValues (counted d (records_at (placed record_at))) [] (spell_counted spell [])
grants-no_entries d record_at spell = grants-entries d record_at spell (λ x. ⊥) (λ x never. absurd never) [] (omega arith) tt

-- ---- symbol tables

head-granted : (nprim nel : ℕ) → nprim ≤ 65535 → nel < 2 ^ 32 → GrantsOf table_head_at (record { nprim = nprim; nel = nel }) (bytes_of 4 nprim ++ bytes_of 4 nel)
unfolding table_head_at
head-granted nprim nel small few =
    let meets : nprim_test nprim ≡ None = rw (le-leb nprim 65535 small) refl in
    grants-as
    (grants-then _ (grants-number_if TABLE_NPRIM 4 nprim _ (omega (arith, small)) meets)
    (grants-then _ (grants-number TABLE_NEL 4 nel few)
    (grants-done (record { nprim = nprim; nel = nel }) refl)))
    (simp append-nil)

-- the records of a symbol table
pub grants-table : {S A : Type 0} (record_at : S → Reader A) (after : S → A → S) (start : ℕ → S) (spell : A → List ℕ) (may : ℕ → S → A → Type 0) → ((left : ℕ) (context : S) (x : A) → may left context x → GrantsOf (record_at context) x (spell x))
    → (table : BareTable A) → table.nprim ≤ 65535 → length table.records < 2 ^ 32 → EachUnder may after (start table.nprim) table.records → GrantsBare (table_at record_at after start) table (spell_table spell table)
unfolding bare_table_at
grants-table record_at after start spell may each table small few h =
    grants-through (table_at record_at after start) (bare_table_at record_at after start) (λ read. bare read) (λ read. read ≡ table) (spell_table spell table) (table_unplaced record_at after start)
    (grants-as
    (grants-then _ (head-granted table.nprim (length table.records) small few)
    (grants-then _ (grants-list_of (λ left context. record_at context) after spell may each table.records (start table.nprim) h)
    (grants-done table refl)))
    (simp (append_assoc, append-nil)))
