use Rattle.se_words.proofs.Lasts.{positionals-more}
use Rattle.se_words.proofs.given.positionals.Goals as goal

pub loop-group-preserved : goal.loop-group-preserved
loop-group-preserved c = positionals-more c.args.groups.now _ _ _ _ _ c.loop-group-test.true c.positional.ensures c.in_ok-push_name.ensures c.loop-group.invariant
