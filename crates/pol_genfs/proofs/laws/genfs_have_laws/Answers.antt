use Rattle.pol_fields.specs.declared.fields.TheConstants.{GENFS_COUNT}
use Rattle.pol_genfs.specs.GenfsRecord.{genfs_at, spell_genfs, GenfsFits}
use Rattle.pol_cursor.proofs.Laws.{counted_records_spelled, counted_records_again}
use Rattle.pol_genfs.proofs.GenfsLaws.{genfs_spelled, genfs_again}
use Rattle.pol_genfs.proofs.laws.genfs_have_laws.Goals as goal

pub returns-clause-again : goal.returns-clause-again
returns-clause-again c = genfs_again

pub returns-clause-spelled : goal.returns-clause-spelled
returns-clause-spelled c = genfs_spelled

pub returns-clause-list_again : goal.returns-clause-list_again
returns-clause-list_again c = counted_records_again GENFS_COUNT genfs_at spell_genfs GenfsFits genfs_again

pub returns-clause-list_spelled : goal.returns-clause-list_spelled
returns-clause-list_spelled c = counted_records_spelled GENFS_COUNT genfs_at spell_genfs GenfsFits genfs_spelled
