use Rattle.std.proofs.Common.{◌≡◌, map, take}
use Rattle.std.specs.List.{filter}
use Rattle.diff_constraints.specs.StatedConstraints.{has_keyword, stated}
use Rattle.diff_constraints.proofs.stated.stated_among.Given as goal

abbrev pub invariant-loop-entry : goal.invariant-loop-entry
invariant-loop-entry l = l.all.items ≡ map (stated l.keyword l.symbols) (filter (has_keyword l.keyword) (take l.entry-index l.entries))
