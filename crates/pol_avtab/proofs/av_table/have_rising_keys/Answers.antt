use Rattle.std.proofs.lemmas.List.{append-nil}
use Rattle.pol_avtab.proofs.KeyOrder.{rising_more}
use Rattle.pol_avtab.proofs.av_table.have_rising_keys.Goals as goal
use Rattle.pol_avtab.proofs.av_table.have_rising_keys.Goals.{in-Some+else-not-follow, in_default}

pub loop-i-init : goal.loop-i-init
loop-i-init c = c.first-last.ensures

pub loop-i-preserved : goal.loop-i-preserved
loop-i-preserved c = elim c.match-word_at.branch [
  | in-Some+else-not-follow w ↦ rw (w.last-is, c.word_at.ensures, w.in-Some.is) (rising_more _ _ _ _ c.loop-i.invariant (w.follow.ensures w.if-not-follow.false))
  | in_default w ↦ rw (w.last-is, c.word_at.ensures, w.in_default.is, append-nil) c.loop-i.invariant
]
