use Rattle.std.proofs.Common.{◌≡◌, ◌++◌, map}
use Rattle.std.specs.List.{range_with_len}
use Rattle.pol_make.specs.MadeRules.{type_row}
use Rattle.pol_make.proofs.make_rules.push_type_rows.Given as goal

abbrev pub invariant-loop-i : goal.invariant-loop-i
invariant-loop-i l = l.rows.items ≡ l.initial.rows.items ++ map (type_row l.n) (range_with_len 0 l.i)
