use Rattle.std.proofs.Common.{◌≤◌}
use Rattle.pol_cursor.proofs.Lists.{Passing}
use Rattle.pol_expr.specs.ConditionRecord.{item_at, values_after_item}
use Rattle.pol_expr.proofs.condition_reading.pass_items.Given as goal

abbrev pub invariant-loop-i : goal.invariant-loop-i
invariant-loop-i l = record { passing : Passing item_at values_after_item l.count 0 l.fn.c l.i l.values l.c; few : l.values ≤ 10 }
