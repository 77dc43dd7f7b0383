use Rattle.std.proofs.Common.{◌≡◌, ℕ, [], length, slice_index_or}
use Rattle.se_checker.proofs.allow_rules.no_rules.Given as goal

abbrev pub invariant-loop-place : goal.invariant-loop-place
invariant-loop-place l = (length l.classes.items ≡ l._place) × ((place : ℕ) → slice_index_or l.classes.items place [] ≡ [])
