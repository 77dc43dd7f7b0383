use Rattle.std.proofs.Common.{◌≡◌, ◌+◌, Some, length, map}
use Rattle.pol_read.specs.StoredRules.{av_rule, rules_of_branch}
use Rattle.rule_query.specs.Inner.Gathering.{HasFound, StandFrom}
use Rattle.rule_query.proofs.query.Query.add_of_branch.Given as goal

abbrev pub invariant-loop-view : goal.invariant-loop-view
invariant-loop-view l =
    let left = map (av_rule (Some l.condition)) l.view-iterator in
    record {
      rules : StandFrom l.policy l.number left;
      end : l.number + length left ≡ l.first + length (rules_of_branch l.policy.rules.conditionals l.condition.node l.condition.branch);
      found : HasFound l.policy l.self l.number l.initial.found l.found;
    }
