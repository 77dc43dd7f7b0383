use Rattle.std.proofs.Common.{◌≡◌, drop}
use Rattle.pol_constraints.proofs.constraint_view.ConstraintView.item.Given as goal

-- some items were passed
abbrev pub invariant-loop : goal.invariant-loop
invariant-loop l = drop l.counter l.self.items ≡ l.items
