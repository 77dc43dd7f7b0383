use Rattle.std.proofs.Common.{◌≡◌, ◌++◌, IfSome, reverse, vec_len}
use Rattle.std.specs.List.{flat_map}
use Rattle.numbered_rules.specs.Forms.{HaveSets, rules_of}
use Rattle.numbered_rules.specs.Inner.Blocks.{IsBlockOf}
use Rattle.numbered_rules.specs.Inner.Cells.{target_differences}
use Rattle.numbered_rules.proofs.row.Row.next.Given as goal

abbrev pub invariant-cells : goal.invariant-cells
invariant-cells l =
    HaveSets l.self-inside.pool.now l.self-inside.first.items × HaveSets l.self-inside.pool.now l.self-inside.second.items
    × IfSome l.self-inside.block (IsBlockOf l.self-inside.pool.now l.self-inside.first.items l.self-inside.second.items)
    × (reverse l.self-inside.cell.items ++ flat_map (target_differences l.self-inside.counting l.self-inside.source (rules_of l.self-inside.pool.now l.self-inside.first.items) (rules_of l.self-inside.pool.now l.self-inside.second.items)) (reverse l.self-inside.targets.items) ≡ l.fn.self)

abbrev pub decreases-cells : goal.decreases-cells
decreases-cells l = vec_len l.self-inside.targets
