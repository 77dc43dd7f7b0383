use Rattle.std.proofs.Common.{◌-◌, ◌≤◌, length}
use Rattle.numbered_rules.proofs.left.has_form.Given as goal

abbrev pub invariant-halves : goal.invariant-halves
invariant-halves l = (l.low ≤ l.high) × (l.high ≤ length l.others)

abbrev pub decreases-halves : goal.decreases-halves
decreases-halves l = l.high - l.low
