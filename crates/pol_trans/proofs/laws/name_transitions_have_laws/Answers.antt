use Rattle.pol_fields.specs.declared.fields.TheConstants.{NAMETRANS_COUNT}
use Rattle.pol_cursor.proofs.Laws.{counted_records_spelled, counted_records_again}
use Rattle.pol_trans.specs.NameTransRecord.{name_trans_at, spell_name_trans, NameTransFits}
use Rattle.pol_trans.proofs.TransLaws.{name_trans_spelled, name_trans_again}
use Rattle.pol_trans.proofs.laws.name_transitions_have_laws.Goals as goal

pub returns-clause-again : goal.returns-clause-again
returns-clause-again c = name_trans_again

pub returns-clause-spelled : goal.returns-clause-spelled
returns-clause-spelled c = name_trans_spelled

pub returns-clause-list_again : goal.returns-clause-list_again
returns-clause-list_again c = counted_records_again NAMETRANS_COUNT name_trans_at spell_name_trans NameTransFits name_trans_again

pub returns-clause-list_spelled : goal.returns-clause-list_spelled
returns-clause-list_spelled c = counted_records_spelled NAMETRANS_COUNT name_trans_at spell_name_trans NameTransFits name_trans_spelled
