use Rattle.pol_fields.specs.declared.fields.TheConstants.{RANGETRANS_COUNT}
use Rattle.pol_cursor.proofs.Laws.{counted_records_spelled, counted_records_again}
use Rattle.pol_trans.specs.RangeTransRecord.{range_trans_at, spell_range_trans, RangeTransFits}
use Rattle.pol_trans.proofs.TransLaws.{range_trans_spelled, range_trans_again}
use Rattle.pol_trans.proofs.laws.range_transitions_have_laws.Goals as goal

pub returns-clause-again : goal.returns-clause-again
returns-clause-again c = range_trans_again

pub returns-clause-spelled : goal.returns-clause-spelled
returns-clause-spelled c = range_trans_spelled

pub returns-clause-list_again : goal.returns-clause-list_again
returns-clause-list_again c = counted_records_again RANGETRANS_COUNT range_trans_at spell_range_trans RangeTransFits range_trans_again

pub returns-clause-list_spelled : goal.returns-clause-list_spelled
returns-clause-list_spelled c = counted_records_spelled RANGETRANS_COUNT range_trans_at spell_range_trans RangeTransFits range_trans_spelled
