use Rattle.std.proofs.Common.{[], ◌∷◌}
use Rattle.pol_make.specs.MadeRules.{transition_rules, file_rules, attribute_rule, rules_of}
use Rattle.pol_make.proofs.RangeLists.{three_parts}
use Rattle.pol_make.proofs.make_rules.push_rules.Goals as goal

pub returns : goal.returns
unfolding rules_of
returns c =
    rw (c.in_ok-push.ensures.items, c.attribute_rule.ensures, c.in_ok-push_file_rules.ensures, c.in_ok-push_transition_rules.ensures)
    (three_parts c.args.rules.now.items (transition_rules c.args.n c.args.i) (file_rules c.args.n c.args.i) (attribute_rule c.args.n c.args.i ∷ []))
