use Rattle.std.proofs.Common.{arith, rules}
use Rattle.se_walks.specs.Inner.StepTexts.{AreStepTexts}
use Rattle.se_walks.specs.WalkTexts.{step_edge}
use Rattle.se_walks.proofs.StepEdges.{added_is, on_any}
use Rattle.se_walks.proofs.walk_texts.push_step_edge.Goals as goal

pub returns-in-Some-clause-text : goal.returns-in-Some-clause-text
returns-in-Some-clause-text g c =
    let is = c.in-Some.ensures (step_edge (g.T.EdgeTexts.words c.args.texts.now)) c.requires in
    search rules

pub returns-clause-kept : goal.returns-clause-kept
returns-clause-kept g c =
    let edge = step_edge (g.T.EdgeTexts.words c.args.texts.now) in
    let text = edge c.args.from c.args.to in
    on_any c.keep.result (AreStepTexts (g.T.EdgeTexts.words c.args.texts.now) c.keep.new.self)
    (c.keep.ensures edge (added_is c.args.buffer.now.items text c.push_edge.new.buffer.items c.deref.result.now c.len-start.result (omega (arith, c.len-start.ensures, c.args.buffer.now.ok)) c.in_ok-push_edge.ensures c.deref.ensures.value) c.requires)
