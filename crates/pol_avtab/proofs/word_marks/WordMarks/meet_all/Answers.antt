use Rattle.std.proofs.Common.{◌++◌, take, get_or, append_assoc}
use Rattle.std.proofs.lemmas.List.{take_more}
use Rattle.pol_avtab.proofs.SharedWords.{marked_more}
use Rattle.pol_avtab.proofs.word_marks.WordMarks.meet_all.Goals as goal

pub loop-word-preserved : goal.loop-word-preserved
loop-word-preserved c before are =
    let words = c.args.words.now in
    let i = c.loop-word.word-index in
    let met = c.meet.ensures in
    let more = marked_more c.loop-word.self c.meet.new.self (before ++ take i words) (get_or words i 0) (c.loop-word.invariant before are) met.met met.again met.stay_met met.stay_shared in
    rw (take_more words i 0 c.loop-word-test.true) (rw append_assoc at more)
