use Rattle.std.proofs.Common.{◌≡◌, ◌+◌, ◌*◌, drop}
use Rattle.pol_cursor.specs.References.{dangling_of}
use Rattle.pol_expr.specs.ConditionRecord.{condition_references, item_references}
use Rattle.pol_expr.proofs.condition_view.ConditionView.dangling.Given as goal

abbrev pub invariant-loop-i : goal.invariant-loop-i
invariant-loop-i g l = dangling_of (g.N.Names.named l.names) (condition_references l.self) ≡ dangling_of (g.N.Names.named l.names) (item_references (l.self.place + 8 + 8 * l.i) (drop l.i l.self.value.items))
