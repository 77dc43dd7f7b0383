use Rattle.pol_bitmap.proofs.BitLists.{bits_increasing}
use Rattle.pol_bitmap.proofs.SetLaws.{sets_same_bits, set_bits_fit}
use Rattle.pol_bitmap.proofs.set_laws.sets_are_their_bits.Goals as goal

pub returns-clause-same : goal.returns-clause-same
returns-clause-same c = sets_same_bits

pub returns-clause-rising : goal.returns-clause-rising
returns-clause-rising c = λ a h. bits_increasing 0 a h.0

pub returns-clause-fits : goal.returns-clause-fits
returns-clause-fits c = set_bits_fit
