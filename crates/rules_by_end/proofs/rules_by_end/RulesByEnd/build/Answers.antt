use Rattle.std.proofs.Common.{ℕ, List, subst}
use Rattle.rules_by_end.specs.RulesByEnd.{AreRowsOf}
use Rattle.rules_by_end.proofs.Rows.{far_ends_are}
use Rattle.rules_by_end.proofs.rules_by_end.RulesByEnd.build.Goals as goal

pub invariant_of-result : goal.invariant_of-result
invariant_of-result c = (
  c.requires.map,
  far_ends_are c.is_accepted.ensures.accepted.0 c.args.policy.now c.args.near c.args.numbers.items c.in_ok-rows.rows c.is_accepted.ensures.accepted.1 c.requires.rules
      (subst (λ (numbers : List ℕ). AreRowsOf c.args.policy.now c.args.near numbers c.in_ok-rows.rows) c.deref.ensures.value c.in_ok-rows.ensures),
)
