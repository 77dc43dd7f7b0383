use Rattle.std.proofs.Common.{sym, ap, ◌∙◌}
use Rattle.bool_state.specs.BooleanStates.{Booleans}
use Rattle.counted_rules.specs.CountedRules.{node_values, rules_under}
use Rattle.counted_rules.proofs.rules.CountedRules.under.Goals as goal

pub invariant_of-result : goal.invariant_of-result
invariant_of-result c = c.in_ok-values.ensures.values ∙ ap (λ (on : Booleans). node_values on c.args.policy.now.rules.conditionals) (sym c.in_ok-values.ensures.on)

pub returns : goal.returns
returns c = ap (λ (on : Booleans). rules_under c.args.policy.now on) c.in_ok-values.ensures.on
