use Rattle.pol_cursor.proofs.ContextLists.{records_after_unplaced}
use Rattle.pol_cursor.proofs.part_laws.dependent_lists_have_laws.Goals as goal

pub returns : goal.returns
returns g c = record { unplaced = λ n context bytes place. records_after_unplaced g.K.ReadAfter.reads g.K.ReadAfter.after n context bytes place }
