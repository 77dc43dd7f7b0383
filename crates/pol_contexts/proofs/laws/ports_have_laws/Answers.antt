use Rattle.pol_fields.specs.declared.fields.TheConstants.{PORT_COUNT}
use Rattle.pol_cursor.proofs.Laws.{counted_records_spelled, counted_records_again}
use Rattle.pol_contexts.specs.PortRecord.{port_at, spell_port, PortFits}
use Rattle.pol_contexts.proofs.ContextLaws.{port_spelled, port_again}
use Rattle.pol_contexts.proofs.laws.ports_have_laws.Goals as goal

pub returns-clause-again : goal.returns-clause-again
returns-clause-again c = port_again

pub returns-clause-spelled : goal.returns-clause-spelled
returns-clause-spelled c = port_spelled

pub returns-clause-list_again : goal.returns-clause-list_again
returns-clause-list_again c = counted_records_again PORT_COUNT port_at spell_port PortFits port_again

pub returns-clause-list_spelled : goal.returns-clause-list_spelled
returns-clause-list_spelled c = counted_records_spelled PORT_COUNT port_at spell_port PortFits port_spelled
