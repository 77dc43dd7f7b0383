use Rattle.pol_fields.specs.declared.fields.TheConstants.{ROLEALLOW_COUNT}
use Rattle.pol_cursor.proofs.Laws.{counted_records_spelled, counted_records_again}
use Rattle.pol_trans.specs.RoleAllowRecord.{role_allow_at, spell_role_allow, RoleAllowFits}
use Rattle.pol_trans.proofs.TransLaws.{role_allow_spelled, role_allow_again}
use Rattle.pol_trans.proofs.laws.role_allows_have_laws.Goals as goal

pub returns-clause-again : goal.returns-clause-again
returns-clause-again c = role_allow_again

pub returns-clause-spelled : goal.returns-clause-spelled
returns-clause-spelled c = role_allow_spelled

pub returns-clause-list_again : goal.returns-clause-list_again
returns-clause-list_again c = counted_records_again ROLEALLOW_COUNT role_allow_at spell_role_allow RoleAllowFits role_allow_again

pub returns-clause-list_spelled : goal.returns-clause-list_spelled
returns-clause-list_spelled c = counted_records_spelled ROLEALLOW_COUNT role_allow_at spell_role_allow RoleAllowFits role_allow_spelled
