use Rattle.std.proofs.Common.{◌≡◌, ◌-◌, map, take}
use Rattle.pol_convert.proofs.groups.datum_of.Given as goal

abbrev pub invariant-loop-entry : goal.invariant-loop-entry
invariant-loop-entry l = l.bits.items ≡ map (λ entry. entry.now.source - 1) (take l.entry-index l.entries)
