use Rattle.se_walks.specs.Inner.Placed.{next_walk}
use Rattle.se_walks.specs.WalkTexts.{step_text}
use Rattle.se_walks.proofs.NumberedTexts.{texts-so-far}
use Rattle.se_walks.proofs.walk_texts.push_steps.Goals as goal

pub loop-before-preserved : goal.loop-before-preserved
loop-before-preserved g c = record {
  kept = c.in_ok-push_step.ensures.kept;
  text = texts-so-far (step_text (g.T.EdgeTexts.words c.args.texts.now) (next_walk c.args.walks.now)) c.loop-before.before _ _ _ c.loop-before.invariant.text c.in_ok-push_step.ensures.text;
}
