use Rattle.std.proofs.Common.{◌∙◌, length, sym, arith}
use Rattle.pol_read.specs.StoredRules.{stored_rules}
use Rattle.rule_query.specs.Meeting.{meets}
use Rattle.rule_query.proofs.Passing.{first_here, first_later, none_left}
use Rattle.rule_query.proofs.query.Query.next_match.Goals as goal

pub returns-then-meets : goal.returns-then-meets
returns-then-meets c = λ criteria is.
    sym (first_here (meets c.args.policy.now criteria) c.loop-n.n (length (stored_rules c.args.policy.now)) (omega (arith, c.rule_count-n-end.ensures.count, c.loop-n-test.true)) (sym (c.meets.ensures criteria is) ∙ c.if-meets.true))
    ∙ c.loop-n.invariant criteria is

pub loop-n-preserved : goal.loop-n-preserved
loop-n-preserved c = λ criteria is.
    sym (first_later (meets c.args.policy.now criteria) c.loop-n.n (length (stored_rules c.args.policy.now)) (omega (arith, c.rule_count-n-end.ensures.count, c.loop-n-test.true)) (sym (c.meets.ensures criteria is) ∙ c.if-meets.false))
    ∙ c.loop-n.invariant criteria is

pub returns : goal.returns
returns c = λ criteria is.
    sym (none_left (meets c.args.policy.now criteria) c.loop-n.n (length (stored_rules c.args.policy.now)) (omega (arith, c.rule_count-n-end.ensures.count, c.loop-n-test.false)))
    ∙ c.loop-n.invariant criteria is
