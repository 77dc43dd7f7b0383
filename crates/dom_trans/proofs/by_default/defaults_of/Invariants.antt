use Rattle.std.proofs.Common.{◌≡◌, map, take}
use Rattle.dom_trans.specs.Inner.ByDefault.{default_value}
use Rattle.dom_trans.proofs.by_default.defaults_of.Given as goal

abbrev pub invariant-loop-number : goal.invariant-loop-number
invariant-loop-number l = l.defaults.items ≡ map (default_value l.policy) (take l.number-index l.numbers)
