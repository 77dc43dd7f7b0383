use Rattle.pol_fields.specs.declared.fields.TheConstants.{ROLETRANS_COUNT}
use Rattle.pol_cursor.proofs.Laws.{counted_records_spelled, counted_records_again}
use Rattle.pol_trans.specs.RoleTransRecord.{role_trans_at, spell_role_trans, RoleTransFits}
use Rattle.pol_trans.proofs.TransLaws.{role_trans_spelled, role_trans_again}
use Rattle.pol_trans.proofs.laws.role_transitions_have_laws.Goals as goal

pub returns-clause-again : goal.returns-clause-again
returns-clause-again c = role_trans_again

pub returns-clause-spelled : goal.returns-clause-spelled
returns-clause-spelled c = role_trans_spelled

pub returns-clause-list_again : goal.returns-clause-list_again
returns-clause-list_again c = counted_records_again ROLETRANS_COUNT role_trans_at spell_role_trans RoleTransFits role_trans_again

pub returns-clause-list_spelled : goal.returns-clause-list_spelled
returns-clause-list_spelled c = counted_records_spelled ROLETRANS_COUNT role_trans_at spell_role_trans RoleTransFits role_trans_spelled
