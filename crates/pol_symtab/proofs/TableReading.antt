-- A table, by the reading of its records.
use Rattle.std.proofs.Common.{◌≡◌, ℕ, List, ap}
use Rattle.pol_cursor.specs.declared.read_error.ReadError.{ReadError}
use Rattle.pol_cursor.specs.declared.read_error.ReadError.TheVariants as errors
use Rattle.pol_cursor.specs.Outcome.{Outcome, Reader, Got, and_then, Fails}
use Rattle.pol_cursor.specs.References.{Placed}
use Rattle.pol_cursor.specs.Contexts.{records_after}
use Rattle.pol_symtab.specs.SymbolTables.{table_records_at}

module _ {S A : Type 0} (reads : S → Reader A) (after : S → A → S) (nprim nel : ℕ) (context : S) (bytes : List ℕ) (place : ℕ) where
  pub table_fails : (e : ReadError) → Fails e (records_after reads after nel context bytes place) → Fails e (table_records_at reads after nprim nel context bytes place)
  unfolding table_records_at
  table_fails errors.Memory h = tt
  table_fails (errors.Fault f) h = ap (λ (o : Outcome (List (Placed A))). and_then o (λ records next. Got (record { nprim = nprim; records = records }) next)) h

  pub table_got : (records : List (Placed A)) (next : ℕ) → records_after reads after nel context bytes place ≡ Got records next → table_records_at reads after nprim nel context bytes place ≡ Got (record { nprim = nprim; records = records }) next
  unfolding table_records_at
  table_got records next h = ap (λ (o : Outcome (List (Placed A))). and_then o (λ records next. Got (record { nprim = nprim; records = records }) next)) h
