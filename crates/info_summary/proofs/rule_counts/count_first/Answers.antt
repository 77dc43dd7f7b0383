use Rattle.std.proofs.Common.{◌+◌, get_or, refl, slice_set, sym, take, ap, ◌∙◌}
use Rattle.pol_read.specs.declared.rule.RuleKind.{RuleKind}
use Rattle.pol_read.specs.declared.rule.RuleEnds.{RuleEnds}
use Rattle.pol_read.specs.RuleKinds.{kind_number}
use Rattle.pol_read.specs.StoredRules.{stored_rules}
use Rattle.pol_read.proofs.RulesDeclared.{rule_with_ends}
use Rattle.info_summary.specs.RuleCounts.{kind_counts}
use Rattle.info_summary.proofs.RuleCounting.{one_counted}
use Rattle.info_summary.proofs.rule_counts.count_first.Goals as goal

pub loop-n-init : goal.loop-n-init
unfolding kind_counts
loop-n-init c = refl

pub loop-n-preserved : goal.loop-n-preserved
loop-n-preserved c =
    let rules = stored_rules c.args.policy.now in
    let n = c.loop-n.n in
    let counts = kind_counts (take n rules) in
    let found = rule_with_ends c.args.policy.now n c.rule_ends.result c.rule_ends.ensures.is in
    c.add.ensures
    ∙ rw c.loop-n.invariant
    (ap (λ (kind : RuleKind). slice_set counts (kind_number kind) (get_or counts (kind_number kind) 0 + 1)) (sym (ap (λ (ends : RuleEnds). ends.kind) found.2))
    ∙ one_counted rules n found.0 found.1)
