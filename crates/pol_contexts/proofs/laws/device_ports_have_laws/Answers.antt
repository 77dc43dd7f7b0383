use Rattle.pol_fields.specs.declared.fields.TheConstants.{IBENDPORT_COUNT}
use Rattle.pol_cursor.proofs.Laws.{counted_records_spelled, counted_records_again}
use Rattle.pol_contexts.specs.IbEndPortRecord.{ibendport_at, spell_ibendport, IbEndPortFits}
use Rattle.pol_contexts.proofs.ContextLaws.{ibendport_spelled, ibendport_again}
use Rattle.pol_contexts.proofs.laws.device_ports_have_laws.Goals as goal

pub returns-clause-again : goal.returns-clause-again
returns-clause-again c = ibendport_again

pub returns-clause-spelled : goal.returns-clause-spelled
returns-clause-spelled c = ibendport_spelled

pub returns-clause-list_again : goal.returns-clause-list_again
returns-clause-list_again c = counted_records_again IBENDPORT_COUNT ibendport_at spell_ibendport IbEndPortFits ibendport_again

pub returns-clause-list_spelled : goal.returns-clause-list_spelled
returns-clause-list_spelled c = counted_records_spelled IBENDPORT_COUNT ibendport_at spell_ibendport IbEndPortFits ibendport_spelled
