use Rattle.std.proofs.Common.{◌≡◌, ◌++◌, reverse, vec_len}
use Rattle.std.specs.List.{flat_map}
use Rattle.numbered_rules.specs.Forms.{HaveSets, rules_of}
use Rattle.numbered_rules.specs.Inner.Cells.{row_differences}
use Rattle.numbered_rules.proofs.differences.SingleDifferences.next.Given as goal

abbrev pub invariant-rows : goal.invariant-rows
invariant-rows l =
    HaveSets l.self-inside.pool.now l.self-inside.left.items × HaveSets l.self-inside.pool.now l.self-inside.first.items × HaveSets l.self-inside.pool.now l.self-inside.second.items
    × (l.self-inside.row ++ flat_map (row_differences l.self-inside.counting (rules_of l.self-inside.pool.now l.self-inside.left.items) (rules_of l.self-inside.pool.now l.self-inside.first.items) (rules_of l.self-inside.pool.now l.self-inside.second.items)) (reverse l.self-inside.sources.items) ≡ l.fn.self)

abbrev pub decreases-rows : goal.decreases-rows
decreases-rows l = vec_len l.self-inside.sources
