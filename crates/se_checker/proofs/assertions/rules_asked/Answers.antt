use Rattle.std.proofs.Common.{ap, ◌∙◌}
use Rattle.se_checker.specs.Verdicts.{Asked, has_wanted}
use Rattle.se_checker.proofs.FoundRules.{found_if}
use Rattle.se_checker.proofs.assertions.rules_asked.Goals as goal

pub returns : goal.returns
returns c =
    let policy = c.args.policy.now in
    let accepted = c.is_accepted.ensures.accepted in
    found_if accepted.0 policy c.args.asked.now c.in_ok-sources.sources.values c.in_ok-targets.targets.values c.args.rules.now c.passing_rules.result accepted.1
    (λ end is. c.in_ok-sources.ensures end is ∙ ap (λ (asked : Asked). has_wanted policy asked.source asked.exempt_source end) c.asked.view_is)
    (λ end is. c.in_ok-targets.ensures end is ∙ ap (λ (asked : Asked). has_wanted policy asked.target asked.exempt_target end) c.asked.view_is)
    c.requires.rules c.passing_rules.ensures
