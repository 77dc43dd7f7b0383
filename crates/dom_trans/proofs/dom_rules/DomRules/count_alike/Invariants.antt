use Rattle.std.proofs.Common.{take}
use Rattle.std.specs.Prelude.{slice_index}
use Rattle.dom_trans.specs.Inner.Targets.{HaveDefaultOf}
use Rattle.dom_trans.proofs.dom_rules.DomRules.count_alike.Given as goal

abbrev pub invariant-loop-place : goal.invariant-loop-place
invariant-loop-place l = HaveDefaultOf l.self.policy (slice_index l.numbers 0) (take l.place l.numbers)
