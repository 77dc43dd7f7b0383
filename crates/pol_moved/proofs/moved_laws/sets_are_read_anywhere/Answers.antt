use Rattle.pol_moved.proofs.Granted.{granted-got}
use Rattle.pol_moved.proofs.GrantedBitmaps.{grants-set}
use Rattle.pol_moved.proofs.moved_laws.sets_are_read_anywhere.Goals as goal

pub returns : goal.returns
returns c = λ set before after fits rises high. granted-got (grants-set set high fits rises) before after
