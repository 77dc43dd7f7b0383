use Rattle.pol_fields.specs.declared.fields.TheConstants.{FSUSE_COUNT}
use Rattle.pol_cursor.proofs.Laws.{counted_records_spelled, counted_records_again}
use Rattle.pol_contexts.specs.FsUseRecord.{fsuse_at, spell_fsuse, FsUseFits}
use Rattle.pol_contexts.proofs.ContextLaws.{fsuse_spelled, fsuse_again}
use Rattle.pol_contexts.proofs.laws.behaviours_have_laws.Goals as goal

pub returns-clause-again : goal.returns-clause-again
returns-clause-again c = fsuse_again

pub returns-clause-spelled : goal.returns-clause-spelled
returns-clause-spelled c = fsuse_spelled

pub returns-clause-list_again : goal.returns-clause-list_again
returns-clause-list_again c = counted_records_again FSUSE_COUNT fsuse_at spell_fsuse FsUseFits fsuse_again

pub returns-clause-list_spelled : goal.returns-clause-list_spelled
returns-clause-list_spelled c = counted_records_spelled FSUSE_COUNT fsuse_at spell_fsuse FsUseFits fsuse_spelled
