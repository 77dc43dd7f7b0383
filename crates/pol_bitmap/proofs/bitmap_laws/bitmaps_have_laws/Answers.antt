use Rattle.pol_bitmap.proofs.Laws.{bitmap_again, bitmap_spelled, bitmap_within}
use Rattle.pol_bitmap.proofs.bitmap_laws.bitmaps_have_laws.Goals as goal

pub returns-clause-again : goal.returns-clause-again
returns-clause-again c = bitmap_again

pub returns-clause-spelled : goal.returns-clause-spelled
returns-clause-spelled c = bitmap_spelled

pub returns-clause-within : goal.returns-clause-within
returns-clause-within c = bitmap_within
