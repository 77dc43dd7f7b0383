use Rattle.pol_cursor.proofs.Lists.{records_unplaced}
use Rattle.pol_cursor.proofs.part_laws.lists_have_laws.Goals as goal

pub returns : goal.returns
returns g c = record { unplaced = λ n bytes place. records_unplaced g.K.ReadAlone.reads n bytes place }
