-- The two laws of a table, from those of its records.
use Rattle.std.proofs.Common.{◌≡◌, ℕ, ◌<◌, ◌^◌, List, ◌++◌, length, refl, ap, ◌∙◌, append_assoc}
use Rattle.std.proofs.lemmas.List.{append-nil}
use Rattle.pol_fields.specs.declared.fields.TheConstants.{TABLE_NPRIM, TABLE_NEL}
use Rattle.pol_cursor.specs.Outcome.{Outcome, Reader, Got, Bad, and_then}
use Rattle.pol_cursor.specs.Laws.{IsReadAgain, IsReadFromSpelling}
use Rattle.pol_cursor.specs.Spelling.{bytes_of}
use Rattle.pol_symtab.specs.declared.table_head.TableHead.{TableHead}
use Rattle.pol_cursor.specs.Parts.{list_of}
use Rattle.pol_cursor.specs.References.{Placed, without_places}
use Rattle.pol_cursor.specs.Contexts.{records_after}
use Rattle.pol_cursor.proofs.Laws.{Reads-part, Reads-done, Reads-number, Reads-number_if, Reads-list_of, Again-part, Again-done, Again-as, Again-number, Again-number_if, Again-list_of}
use Rattle.pol_cursor.proofs.ContextLists.{records_after_unplaced}
use Rattle.pol_symtab.specs.SymbolTables.{bare, table_head_at, table_records_at, table_at, bare_table_at, spell_table, TableFits}

-- ---- the head

abbrev spell_head : TableHead → List ℕ
spell_head head = bytes_of 4 head.nprim ++ bytes_of 4 head.nel

record HeadFits (head : TableHead) : Type 0 where
  nprim : head.nprim < 2 ^ 32
  nel : head.nel < 2 ^ 32

head_spelled : IsReadFromSpelling table_head_at spell_head HeadFits
unfolding table_head_at
head_spelled =
    Reads-part (Reads-number_if TABLE_NPRIM 4) λ nprim nprim-fits.
    Reads-part (Reads-number TABLE_NEL 4) λ nel nel-fits.
    Reads-done _ (record { nprim = nprim; nel = nel }) (record { same = simp append-nil; fitting = record { nprim = nprim-fits.0; nel = nel-fits } })

head_again : IsReadAgain table_head_at spell_head HeadFits
unfolding table_head_at
head_again head h =
    Again-as
    (Again-part _ (Again-number_if TABLE_NPRIM 4 head.nprim _ h.nprim)
    (Again-part _ (Again-number TABLE_NEL 4 head.nel h.nel)
    (Again-done head)))
    (simp append-nil)

-- ---- the table

module _ {S A : Type 0} (record_at : S → Reader A) (after : S → A → S) (start : ℕ → S) (spell : A → List ℕ) (fits : A → Type 0) where
  pub table_spelled : ((context : S) → IsReadFromSpelling (record_at context) spell fits) → IsReadFromSpelling (bare_table_at record_at after start) (spell_table spell) (TableFits fits)
  unfolding bare_table_at
  table_spelled each =
      Reads-part head_spelled λ head head-fits.
      Reads-part (Reads-list_of (λ left context. record_at context) after spell fits (λ left context. each context) head.nel (start head.nprim)) λ records records-fits.
      Reads-done _ (record { nprim = head.nprim; records = records }) (record {
        same = rw (records-fits.0) (simp (append_assoc, append-nil));
        fitting = record { nprim = head-fits.nprim; nel = rw (records-fits.0) (head-fits.nel); records = records-fits.1 };
      })

  pub table_again : ((context : S) → IsReadAgain (record_at context) spell fits) → IsReadAgain (bare_table_at record_at after start) (spell_table spell) (TableFits fits)
  unfolding bare_table_at
  table_again each table h =
      Again-as
      (Again-part _ (head_again (record { nprim = table.nprim; nel = length table.records }) (record { nprim = h.nprim; nel = h.nel }))
      (Again-part _ (Again-list_of (λ left context. record_at context) after spell fits (λ left context x. each context x) table.records (start table.nprim) h.records)
      (Again-done table)))
      (simp (append_assoc, append-nil))

-- ---- the places of the records

records-go : {A : Type 0} (nprim : ℕ) (o : Outcome (List (Placed A))) → and_then (and_then o (λ records next. Got (record { nprim = nprim; records = records }) next)) (λ table next. Got (bare table) next) ≡ and_then (without_places o) (λ records next. Got (record { nprim = nprim; records = records }) next)
records-go nprim (Got records next) = refl
records-go nprim (Bad f) = refl

head-go : {S A : Type 0} (record_at : S → Reader A) (after : S → A → S) (start : ℕ → S) (bytes : List ℕ) (o : Outcome TableHead)
    → and_then (and_then o (λ head next. table_records_at record_at after head.nprim head.nel (start head.nprim) bytes next)) (λ table next. Got (bare table) next)
    ≡ and_then o (λ head next. and_then (list_of (λ left context. record_at context) after head.nel (start head.nprim) bytes next) (λ records next. Got (record { nprim = head.nprim; records = records }) next))
unfolding table_records_at
head-go record_at after start bytes (Bad f) = refl
head-go {S} {A} record_at after start bytes (Got head next) =
    records-go head.nprim (records_after record_at after head.nel (start head.nprim) bytes next)
    ∙ ap (λ (o : Outcome (List A)). and_then o (λ records next. Got (record { nprim = head.nprim; records = records }) next)) (records_after_unplaced record_at after head.nel (start head.nprim) bytes next)

-- A table whose records are read with their places is the table that is read.
pub table_unplaced : {S A : Type 0} (record_at : S → Reader A) (after : S → A → S) (start : ℕ → S) (bytes : List ℕ) (place : ℕ) → and_then (table_at record_at after start bytes place) (λ table next. Got (bare table) next) ≡ bare_table_at record_at after start bytes place
unfolding table_at bare_table_at
table_unplaced record_at after start bytes place = head-go record_at after start bytes (table_head_at bytes place)
