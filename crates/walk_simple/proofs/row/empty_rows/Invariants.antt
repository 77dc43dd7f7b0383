use Rattle.std.proofs.Common.{◌≡◌, ℕ, [], length}
use Rattle.walk_enum.specs.Inner.Turns.{row_of}
use Rattle.walk_simple.proofs.row.empty_rows.Given as goal

abbrev pub invariant-loop : goal.invariant-loop
invariant-loop l = (length l.rows.items ≡ l.counter) × ((a : ℕ) → row_of l.rows.items a ≡ [])
