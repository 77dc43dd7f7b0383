use Rattle.std.proofs.Common.{◌≡◌, take}
use Rattle.std.specs.List.{filter}
use Rattle.dom_trans.specs.DefaultRules.{has_default}
use Rattle.dom_trans.proofs.dom_rules.DomRules.with_default.Given as goal

abbrev pub invariant-loop-number : goal.invariant-loop-number
invariant-loop-number l = l.found.items ≡ filter (has_default l.self.policy l.b) (take l.number-index l.numbers)
