use Rattle.std.proofs.Common.{◌==◌, map}
use Rattle.pol_convert.specs.Grouped.{datum_of}
use Rattle.pol_convert.proofs.MadeOfRows.{AreMade}
use Rattle.pol_convert.proofs.groups.data_of.Given as goal

abbrev pub invariant-loop-place : goal.invariant-loop-place
invariant-loop-place l = AreMade ◌==◌ (λ entry. entry.default) datum_of (map (λ entry. entry.now) l.entries) l.defaults l.place l.datums.items
