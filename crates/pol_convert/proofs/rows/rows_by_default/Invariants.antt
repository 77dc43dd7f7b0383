use Rattle.std.proofs.Common.{◌==◌, map, take}
use Rattle.pol_convert.specs.Inner.GroupRows.{AreInRows}
use Rattle.pol_convert.proofs.rows.rows_by_default.Given as goal

abbrev pub invariant-loop-entry : goal.invariant-loop-entry
invariant-loop-entry l = AreInRows ◌==◌ (λ entry. entry.default) l.defaults.keys l.rows (map (λ entry. entry.now) (take l.entry-index l.list))
