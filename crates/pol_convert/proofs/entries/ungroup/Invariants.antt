use Rattle.std.proofs.Common.{◌≡◌, take}
use Rattle.pol_convert.specs.Ungrouped.{ungrouped}
use Rattle.pol_convert.proofs.entries.ungroup.Given as goal

abbrev pub invariant-loop-group : goal.invariant-loop-group
invariant-loop-group l = l.entries.items ≡ ungrouped l.declared (take l.group-index l.list)
