use Rattle.pol_fields.specs.declared.fields.TheConstants.{NAMEGROUP_COUNT}
use Rattle.pol_cursor.proofs.Laws.{counted_records_spelled, counted_records_again}
use Rattle.pol_trans.specs.NameGroupRecord.{name_group_at, spell_name_group, NameGroupFits}
use Rattle.pol_trans.proofs.TransLaws.{name_group_spelled, name_group_again}
use Rattle.pol_trans.proofs.laws.name_groups_have_laws.Goals as goal

pub returns-clause-again : goal.returns-clause-again
returns-clause-again c = name_group_again

pub returns-clause-spelled : goal.returns-clause-spelled
returns-clause-spelled c = name_group_spelled

pub returns-clause-list_again : goal.returns-clause-list_again
returns-clause-list_again c = counted_records_again NAMEGROUP_COUNT name_group_at spell_name_group NameGroupFits name_group_again

pub returns-clause-list_spelled : goal.returns-clause-list_spelled
returns-clause-list_spelled c = counted_records_spelled NAMEGROUP_COUNT name_group_at spell_name_group NameGroupFits name_group_spelled
