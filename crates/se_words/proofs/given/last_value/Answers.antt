use Rattle.se_words.proofs.Lasts.{lasts-more}
use Rattle.se_words.proofs.given.last_value.Goals as goal

pub loop-group-preserved : goal.loop-group-preserved
loop-group-preserved c = rw (c.or-last.ensures) (lasts-more c.args.option.now c.args.groups.now _ _ _ _ c.loop-group-test.true c.value_of.ensures c.loop-group.invariant)
