use Rattle.std.proofs.Common.{◌≡◌, ◌++◌}
use Rattle.std.specs.List.{flat_map, range_with_len}
use Rattle.se_walks.specs.Inner.Placed.{next_walk}
use Rattle.se_walks.specs.Inner.StepTexts.{AreStepTexts}
use Rattle.se_walks.specs.WalkTexts.{step_text}
use Rattle.se_walks.proofs.walk_texts.push_steps.Given as goal

abbrev pub invariant-loop-before : goal.invariant-loop-before
invariant-loop-before g l = record {
  kept : AreStepTexts (g.T.EdgeTexts.words l.texts) l.kept;
  text : l.buffer.items ≡ l.initial.buffer.items ++ flat_map (step_text (g.T.EdgeTexts.words l.texts) (next_walk l.walks)) (range_with_len 0 l.before);
}
