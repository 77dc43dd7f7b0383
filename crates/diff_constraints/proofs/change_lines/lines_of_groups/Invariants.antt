use Rattle.std.proofs.Common.{◌≡◌, ◌≤◌, ◌-◌, ◌++◌, drop, length, map}
use Rattle.std.specs.List.{flat_map}
use Rattle.diff_constraints.specs.ConstraintDifferences.{change_line, changes_of_group, grouped}
use Rattle.diff_constraints.proofs.change_lines.lines_of_groups.Given as goal

-- the lines so far and those of what is left are all
abbrev pub invariant-groups : goal.invariant-groups
invariant-groups l =
    (l.lines.items ++ map (change_line l.keyword) (flat_map changes_of_group (grouped (drop l.start l.soles))) ≡ map (change_line l.keyword) (flat_map changes_of_group (grouped l.soles)))
    × (l.start ≤ length l.soles)

abbrev pub decreases-groups : goal.decreases-groups
decreases-groups l = length l.soles - l.start
