-- Both laws of the lists of a policy, each seen without the places of its records.
use Rattle.std.proofs.Common.{◌≡◌, ℕ, Bool, true, false, List, [], ◌++◌, length, refl, subst}
use Rattle.std.specs.List.{flat_map, AllByRecursion}
use Rattle.pol_fields.specs.declared.Field.{Field}
use Rattle.pol_cursor.specs.Outcome.{Outcome, Reader, Got, Bad, and_then}
use Rattle.pol_cursor.specs.Parts.{number, list_of, records_at, counted, spell_counted, CountedFits}
use Rattle.pol_cursor.specs.References.{Placed, placed, values_of, without_places}
use Rattle.pol_cursor.specs.Contexts.{records_after}
use Rattle.pol_cursor.specs.Laws.{IsReadAgain, IsReadFromSpelling}
use Rattle.pol_cursor.proofs.Laws.{Reads-done, Reads-list_of, Again-list_of, records_spelled, records_again, counted_spelled, counted_again}
use Rattle.pol_cursor.proofs.Lists.{records_unplaced}
use Rattle.pol_cursor.proofs.ContextLists.{records_after_unplaced}
use Rattle.pol_symtab.specs.SymbolTables.{bare, table_at, bare_table_at, spell_table, TableFits}
use Rattle.pol_symtab.proofs.TableLaws.{table_spelled, table_again, table_unplaced}
use Rattle.pol_contexts.specs.ContextTables.{table_if}
use Rattle.pol_tree.specs.TreeSpelling.{spell_if}
use Rattle.pol_write.proofs.Findings.{FindsAgain, HasLaws, laws-through, finds-done}

-- a list behind its count, read with the places of its records and without them
pub counted_unplaced : {A : Type 0} (bytes : List ℕ) (placed_at : ℕ → Reader (List (Placed A))) (plain_at : ℕ → Reader (List A)) → ((n next : ℕ) → without_places (placed_at n bytes next) ≡ plain_at n bytes next)
    → (o : Outcome ℕ) → without_places (and_then o (λ n next. placed_at n bytes next)) ≡ and_then o (λ n next. plain_at n bytes next)
counted_unplaced bytes placed_at plain_at each (Got n next) = each n next
counted_unplaced bytes placed_at plain_at each (Bad f) = refl

-- records that are read alone, behind their count
pub list-laws : {A : Type 0} (d : Field) (record_at : Reader A) (spell : A → List ℕ) (fits : A → Type 0) → IsReadFromSpelling record_at spell fits → IsReadAgain record_at spell fits
    → HasLaws (counted d (records_at (placed record_at))) (λ records. values_of records) (spell_counted spell) (CountedFits fits)
list-laws d record_at spell fits spelled again =
    laws-through (counted d (records_at (placed record_at))) (counted d (records_at record_at)) (λ records. values_of records) (spell_counted spell) (CountedFits fits)
    (λ bytes place. counted_unplaced bytes (records_at (placed record_at)) (records_at record_at) (λ n next. records_unplaced record_at n bytes next) (number d 4 bytes place))
    (counted_spelled d (records_at record_at) spell fits (records_spelled record_at spell fits spelled))
    (counted_again d (records_at record_at) spell fits (records_again record_at spell fits again))

-- the records of a symbol table
pub table-laws : {S A : Type 0} (record_at : S → Reader A) (after : S → A → S) (start : ℕ → S) (spell : A → List ℕ) (fits : A → Type 0) → ((context : S) → IsReadFromSpelling (record_at context) spell fits)
    → ((context : S) → IsReadAgain (record_at context) spell fits) → HasLaws (table_at record_at after start) (λ table. bare table) (spell_table spell) (TableFits fits)
table-laws record_at after start spell fits spelled again =
    laws-through (table_at record_at after start) (bare_table_at record_at after start) (λ table. bare table) (spell_table spell) (TableFits fits) (table_unplaced record_at after start)
    (table_spelled record_at after start spell fits spelled) (table_again record_at after start spell fits again)

-- so many records that are read under what the ones before them made of a context, without their count
abbrev pub AreSoManyFitting : {A : Type 0} → ℕ → (A → Type 0) → List A → Type 0
AreSoManyFitting n fits xs = (length xs ≡ n) × AllByRecursion fits xs

again-so_many : {S A : Type 0} (record_at : S → Reader A) (after : S → A → S) (spell : A → List ℕ) (fits : A → Type 0) → ((context : S) → IsReadAgain (record_at context) spell fits) → (n : ℕ) (context : S)
    → IsReadAgain (list_of (λ left context. record_at context) after n context) (flat_map spell) (AreSoManyFitting n fits)
again-so_many {S} {A} record_at after spell fits again n context xs h =
    rw (← h.0) (Again-list_of (λ left context. record_at context) after spell fits (λ left context x x-fits. again context x x-fits) xs context h.1)

pub rows-laws : {S A : Type 0} (record_at : S → Reader A) (after : S → A → S) (spell : A → List ℕ) (fits : A → Type 0) → ((context : S) → IsReadFromSpelling (record_at context) spell fits)
    → ((context : S) → IsReadAgain (record_at context) spell fits) → (n : ℕ) (context : S) → HasLaws (records_after record_at after n context) (λ records. values_of records) (flat_map spell) (AreSoManyFitting n fits)
rows-laws record_at after spell fits spelled again n context =
    laws-through (records_after record_at after n context) (list_of (λ left context. record_at context) after n context) (λ records. values_of records) (flat_map spell) (AreSoManyFitting n fits)
    (λ bytes place. records_after_unplaced record_at after n context bytes place)
    (Reads-list_of (λ left context. record_at context) after spell fits (λ left context. spelled context) n context)
    (again-so_many record_at after spell fits again n context)

-- a list that is in the file or is empty
abbrev pub FitsIf : {A : Type 0} → Bool → (List A → Type 0) → List A → Type 0
FitsIf true fits xs = fits xs
FitsIf false fits xs = xs ≡ []

pub list_if-laws : {A : Type 0} (there : Bool) (list : Reader (List (Placed A))) (spell : List A → List ℕ) (fits : List A → Type 0) → HasLaws list (λ records. values_of records) spell fits
    → HasLaws (table_if there list) (λ records. values_of records) (λ xs. spell_if there (spell xs)) (FitsIf there fits)
unfolding table_if
list_if-laws true list spell fits laws = laws
list_if-laws false list spell fits laws = record {
  spelled = Reads-done _ [] (record { same = refl; fitting = refl });
  again = λ xs none. subst (λ (ys : List _). FindsAgain (table_if false list) (λ records. values_of records ≡ ys) []) (none-back xs none) (finds-done [] refl);
}
  where
    none-back : {A : Type 0} (xs : List A) → xs ≡ [] → [] ≡ xs
    none-back xs e = cc

-- two lists that are in the file together or are not
pub spelled-if : (there : Bool) (s t : List ℕ) → spell_if there s ++ spell_if there t ≡ spell_if there (s ++ t)
spelled-if true s t = refl
spelled-if false s t = refl
