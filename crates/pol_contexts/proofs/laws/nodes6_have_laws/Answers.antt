use Rattle.pol_fields.specs.declared.fields.TheConstants.{NODE6_COUNT, NODE6_ADDRESS, NODE6_MASK}
use Rattle.pol_cursor.proofs.Laws.{counted_records_spelled, counted_records_again}
use Rattle.pol_contexts.specs.AddressRecord.{address_at, spell_address, AddressFits}
use Rattle.pol_contexts.proofs.ContextLaws.{address_spelled, address_again}
use Rattle.pol_contexts.proofs.laws.nodes6_have_laws.Goals as goal

pub returns-clause-again : goal.returns-clause-again
returns-clause-again c = address_again NODE6_ADDRESS NODE6_MASK 16

pub returns-clause-spelled : goal.returns-clause-spelled
returns-clause-spelled c = address_spelled NODE6_ADDRESS NODE6_MASK 16

pub returns-clause-list_again : goal.returns-clause-list_again
returns-clause-list_again c = counted_records_again NODE6_COUNT (address_at NODE6_ADDRESS NODE6_MASK 16) spell_address (AddressFits 16) (address_again NODE6_ADDRESS NODE6_MASK 16)

pub returns-clause-list_spelled : goal.returns-clause-list_spelled
returns-clause-list_spelled c = counted_records_spelled NODE6_COUNT (address_at NODE6_ADDRESS NODE6_MASK 16) spell_address (AddressFits 16) (address_spelled NODE6_ADDRESS NODE6_MASK 16)
