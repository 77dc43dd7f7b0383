-- Lists of a policy that were read are read wherever they stand, seen without the places of their records.
use Rattle.std.proofs.Common.{◌≡◌, ℕ, List, [], ◌∷◌, length, subst}
use Rattle.std.specs.List.{flat_map, AllByRecursion}
use Rattle.pol_fields.specs.declared.Field.{Field}
use Rattle.pol_cursor.specs.Outcome.{Reader, Got, and_then}
use Rattle.pol_cursor.specs.Parts.{number, records_at, counted, spell_counted, CountedFits}
use Rattle.pol_cursor.specs.References.{Placed, placed, values_of}
use Rattle.pol_cursor.specs.Laws.{Again, IsReadAgain}
use Rattle.pol_cursor.proofs.Laws.{counted_again, records_again, Again-number}
use Rattle.pol_cursor.proofs.Lists.{records_unplaced}
use Rattle.pol_symtab.specs.SymbolTables.{Table, BareTable, TableFits, bare, table_at, bare_table_at, spell_table}
use Rattle.pol_symtab.proofs.TableLaws.{table_again, table_unplaced}
use Rattle.pol_write.proofs.ListFindings.{counted_unplaced}
use Rattle.pol_moved.proofs.Granted.{Grants, GrantsOf, EachUnder, grants-through}
use Rattle.pol_moved.proofs.Moves.{Moves, moves-counted_records}
use Rattle.pol_moved.proofs.MovesSymbols.{moves-bare_table}
use Rattle.pol_moved.proofs.Stood.{Stood, stood-part, stood-through, stood-records, grants-moved}

-- ---- readers whose values are seen as other ones

pub kept-through : {X Y : Type 0} (r : Reader X) (plain : Reader Y) (view : X → Y) {x : X} {y : Y} {text : List ℕ} → ((bytes : List ℕ) (place : ℕ) → and_then (r bytes place) (λ x next. Got (view x) next) ≡ plain bytes place)
    → Moves plain → Again plain y text → view x ≡ y → Stood r x text → Grants r (λ x. view x ≡ y) text
kept-through {X} {Y} r plain view {x} {y} {text} same moves again is stood =
    let there = subst (λ (z : Y). Stood plain z text) is (stood-through r plain view same stood) in
    grants-through r plain view (λ z. z ≡ y) text same (grants-moved moves again there)

-- records that are read alone, behind their count
pub list-kept : {A : Type 0} (d : Field) (record_at : Reader A) (spell : A → List ℕ) (fits : A → Type 0) → IsReadAgain record_at spell fits → Moves record_at → (xs : List A) → CountedFits fits xs → (records : List (Placed A)) → values_of records ≡ xs
    → Stood (counted d (records_at (placed record_at))) records (spell_counted spell xs) → Grants (counted d (records_at (placed record_at))) (λ records. values_of records ≡ xs) (spell_counted spell xs)
list-kept d record_at spell fits again moves xs xs-fit records is stood =
    kept-through (counted d (records_at (placed record_at))) (counted d (records_at record_at)) (λ records. values_of records)
    (λ bytes place. counted_unplaced bytes (records_at (placed record_at)) (records_at record_at) (λ n next. records_unplaced record_at n bytes next) (number d 4 bytes place))
    (moves-counted_records d record_at moves) (counted_again d (records_at record_at) spell fits (records_again record_at spell fits again) xs xs-fit) is stood

-- other records than those that were read
pub list-granted : {A : Type 0} (d : Field) (record_at : Reader A) (spell : A → List ℕ) (xs : List A) → GrantsOf (counted d (records_at record_at)) xs (spell_counted spell xs)
    → Grants (counted d (records_at (placed record_at))) (λ records. values_of records ≡ xs) (spell_counted spell xs)
list-granted d record_at spell xs granted =
    grants-through (counted d (records_at (placed record_at))) (counted d (records_at record_at)) (λ records. values_of records) (λ ys. ys ≡ xs) (spell_counted spell xs)
    (λ bytes place. counted_unplaced bytes (records_at (placed record_at)) (records_at record_at) (λ n next. records_unplaced record_at n bytes next) (number d 4 bytes place)) granted

-- the records of a symbol table
pub table-kept : {S A : Type 0} (record_at : S → Reader A) (after : S → A → S) (start : ℕ → S) (spell : A → List ℕ) (fits : A → Type 0) → ((context : S) → IsReadAgain (record_at context) spell fits) → ((context : S) → Moves (record_at context))
    → (xs : BareTable A) → TableFits fits xs → (table : Table A) → bare table ≡ xs → Stood (table_at record_at after start) table (spell_table spell xs)
    → Grants (table_at record_at after start) (λ table. bare table ≡ xs) (spell_table spell xs)
table-kept record_at after start spell fits again moves xs xs-fit table is stood =
    kept-through (table_at record_at after start) (bare_table_at record_at after start) (λ table. bare table) (table_unplaced record_at after start)
    (moves-bare_table record_at after start moves) (table_again record_at after start spell fits again xs xs-fit) is stood

-- each of the records was read
pub list-stood : {A : Type 0} (d : Field) (record_at : Reader A) (spell : A → List ℕ) (fits : A → Type 0) → IsReadAgain record_at spell fits → (xs : List A) → CountedFits fits xs → (records : List (Placed A)) → values_of records ≡ xs
    → Stood (counted d (records_at (placed record_at))) records (spell_counted spell xs) → AllByRecursion (λ x. fits x × Stood record_at x (spell x)) xs
list-stood {A} d record_at spell fits again xs xs-fit records is stood =
    let plain = stood-through (counted d (records_at (placed record_at))) (counted d (records_at record_at)) (λ records. values_of records)
    (λ bytes place. counted_unplaced bytes (records_at (placed record_at)) (records_at record_at) (λ n next. records_unplaced record_at n bytes next) (number d 4 bytes place)) stood
    in
    let there = subst (λ (ys : List A). Stood (counted d (records_at record_at)) ys (spell_counted spell xs)) is plain in
    let count = stood-part (records_at record_at) (flat_map spell xs) (Again-number d 4 (length xs) xs-fit.count) there in
    each-alone (λ x. fits x × Stood record_at x (spell x)) xs (stood-records record_at spell fits again xs xs-fit.items count.others)
  where
    each-alone : {A : Type 0} (P : A → Type 0) (xs : List A) → EachUnder {S = Unit {0}} (λ left context x. P x) (λ context x. context) tt xs → AllByRecursion P xs
    each-alone P [] h = tt
    each-alone P (x ∷ xs) h = (h.0, each-alone P xs h.1)
