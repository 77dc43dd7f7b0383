use Rattle.std.proofs.Common.{◌≡◌, map, take}
use Rattle.diff_entries.proofs.differences.keys_of.Given as goal

abbrev pub invariant-loop-number : goal.invariant-loop-number
invariant-loop-number g l = l.keys.items ≡ map (λ e. e.key) (take l.number (g.E.Entries.entries l.entries))
