use Rattle.std.proofs.Common.{◌≡◌, take}
use Rattle.std.specs.List.{filter}
use Rattle.rules_between.specs.ChosenRules.{begins_at}
use Rattle.dom_trans.proofs.dom_rules.DomRules.beginning_at.Given as goal

abbrev pub invariant-loop-number : goal.invariant-loop-number
invariant-loop-number l = l.found.items ≡ filter (begins_at l.self.policy l.a) (take l.number-index l.numbers)
