use Rattle.std.proofs.Common.{arith}
use Rattle.pol_avtab.specs.Inner.DuplicateKeys.{is_shared}
use Rattle.pol_avtab.proofs.SharedFirst.{sifted_more}
use Rattle.pol_avtab.proofs.word_marks.WordMarks.push_shared.Goals as goal

pub loop-i-preserved : goal.loop-i-preserved
loop-i-preserved c = rw (c.from-count.ensures, c.is_shared.ensures) (sifted_more (is_shared c.args.self.now) c.args.words.now c.loop-i.i c.loop-i.count c.loop-i.words c.loop-i.invariant (omega arith))
