use Rattle.std.proofs.Common.{◌≡◌, ℕ, None, length, slice_index_or}
use Rattle.rule_singles.proofs.keeping.no_numbers.Given as goal

abbrev pub invariant-loop : goal.invariant-loop
invariant-loop l = (length l.numbers.items ≡ l.counter) × ((k : ℕ) → slice_index_or l.numbers.items k None ≡ None)
