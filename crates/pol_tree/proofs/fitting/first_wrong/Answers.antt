use Rattle.std.proofs.Common.{◌∙◌, sym, arith}
use Rattle.pol_tree.proofs.Wrongs.{part_here, part_later, part_none}
use Rattle.pol_tree.proofs.fitting.first_wrong.Goals as goal

pub returns-in-Some : goal.returns-in-Some
returns-in-Some c = sym (c.loop-part.invariant ∙ part_here c.args.parts.now c.loop-part.part-index c.in-Some.field c.loop-part-test.true c.in-Some.is)

pub loop-part-preserved : goal.loop-part-preserved
loop-part-preserved c = c.loop-part.invariant ∙ part_later c.args.parts.now c.loop-part.part-index c.loop-part-test.true c.in-None.is

pub returns : goal.returns
returns c = sym (c.loop-part.invariant ∙ part_none c.args.parts.now c.loop-part.part-index (omega arith))
