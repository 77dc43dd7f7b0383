use Rattle.std.proofs.Common.{◌≡◌, take}
use Rattle.pol_read.specs.StoredRules.{stored_rules}
use Rattle.info_summary.specs.RuleCounts.{kind_counts}
use Rattle.info_summary.proofs.rule_counts.count_first.Given as goal

abbrev pub invariant-loop-n : goal.invariant-loop-n
invariant-loop-n l = l.counts ≡ kind_counts (take l.n (stored_rules l.policy))
