use Rattle.std.proofs.Common.{◌≡◌, ◌≤◌, ◌*◌, take}
use Rattle.std.specs.List.{sum_by}
use Rattle.pol_read.specs.StoredRules.{stored_rules}
use Rattle.se_make.specs.Singles.{pairs_of}
use Rattle.se_make.proofs.singles.count_singles.Given as goal

-- each rule stands for at most 65,535 times 65,535
abbrev pub invariant-loop-number : goal.invariant-loop-number
invariant-loop-number l = record { counted : l.count ≡ sum_by (pairs_of l.policy) (take l.number (stored_rules l.policy)); small : l.count ≤ 4294836225 * l.number }
