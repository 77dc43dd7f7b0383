use Rattle.pol_fields.specs.declared.fields.TheConstants.{SID_COUNT}
use Rattle.pol_cursor.proofs.Laws.{counted_records_spelled, counted_records_again}
use Rattle.pol_contexts.specs.SidRecord.{sid_at, spell_sid, SidFits}
use Rattle.pol_contexts.proofs.ContextLaws.{sid_spelled, sid_again}
use Rattle.pol_contexts.proofs.laws.sids_have_laws.Goals as goal

pub returns-clause-again : goal.returns-clause-again
returns-clause-again c = sid_again

pub returns-clause-spelled : goal.returns-clause-spelled
returns-clause-spelled c = sid_spelled

pub returns-clause-list_again : goal.returns-clause-list_again
returns-clause-list_again c = counted_records_again SID_COUNT sid_at spell_sid SidFits sid_again

pub returns-clause-list_spelled : goal.returns-clause-list_spelled
returns-clause-list_spelled c = counted_records_spelled SID_COUNT sid_at spell_sid SidFits sid_spelled
