use Rattle.std.proofs.Common.{take, get_or}
use Rattle.std.proofs.lemmas.List.{take_more}
use Rattle.rule_singles.proofs.Made.{made_more}
use Rattle.rule_singles.proofs.single_rules.SingleRules.of.Goals as goal

pub loop-number-preserved : goal.loop-number-preserved
loop-number-preserved c =
    let i = c.loop-number.number-index in
    let all = c.args.numbers.now in
    record {
      sources_asked = rw c.entry_of.ensures.same_sources c.loop-number.invariant.sources_asked;
      targets_asked = rw c.entry_of.ensures.same_targets c.loop-number.invariant.targets_asked;
      sources_known = c.entry_of.ensures.sources;
      targets_known = c.entry_of.ensures.targets;
      made = rw (c.in_ok-push.ensures.items, take_more all i 0 c.loop-number-test.true)
          (made_more c.args.policy.now c.args.criteria.now (take i all) c.loop-number.pool c.entry_of.new.pool c.loop-number.entries.items (get_or all i 0) c.in_ok-entry.entry c.loop-number.invariant.made c.entry_of.ensures.grows
          (c.in_ok-entry.ensures.entry c.args.criteria.now c.loop-number.invariant.sources_asked c.loop-number.invariant.targets_asked));
    }
