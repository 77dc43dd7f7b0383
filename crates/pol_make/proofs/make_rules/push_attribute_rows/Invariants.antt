use Rattle.std.proofs.Common.{◌≡◌, ◌++◌, map}
use Rattle.std.specs.List.{range_with_len}
use Rattle.pol_make.specs.MadeRules.{attribute_row}
use Rattle.pol_make.proofs.make_rules.push_attribute_rows.Given as goal

abbrev pub invariant-loop-i : goal.invariant-loop-i
invariant-loop-i l = l.rows.items ≡ l.initial.rows.items ++ map attribute_row (range_with_len l.n l.i)
