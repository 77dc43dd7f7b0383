use Rattle.std.proofs.Common.{◌≡◌, map, take}
use Rattle.std.specs.List.{filter}
use Rattle.keyed_lists.specs.Differences.{is_difference}
use Rattle.numbered_rules.specs.Forms.{rules_of}
use Rattle.numbered_rules.specs.NumberedRules.{same_given}
use Rattle.numbered_rules.specs.Inner.Cells.{both_labelled}
use Rattle.numbered_rules.proofs.cell.cell_differences.Given as goal

abbrev pub invariant-loop-key : goal.invariant-loop-key
invariant-loop-key l =
    l.differences.items ≡ filter (is_difference same_given) (map (both_labelled l.counting (rules_of l.pool l.first) (rules_of l.pool l.second)) (take l.key-index l.keys))
