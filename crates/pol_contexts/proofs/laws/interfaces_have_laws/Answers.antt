use Rattle.pol_fields.specs.declared.fields.TheConstants.{NETIF_COUNT, NETIF_LEN, NETIF_NAME}
use Rattle.pol_cursor.proofs.Laws.{counted_records_spelled, counted_records_again}
use Rattle.pol_contexts.specs.NamedRecord.{named_at, spell_named, NamedFits}
use Rattle.pol_contexts.proofs.ContextLaws.{named_spelled, named_again}
use Rattle.pol_contexts.proofs.laws.interfaces_have_laws.Goals as goal

pub returns-clause-again : goal.returns-clause-again
returns-clause-again c = named_again NETIF_LEN NETIF_NAME

pub returns-clause-spelled : goal.returns-clause-spelled
returns-clause-spelled c = named_spelled NETIF_LEN NETIF_NAME

pub returns-clause-list_again : goal.returns-clause-list_again
returns-clause-list_again c = counted_records_again NETIF_COUNT (named_at NETIF_LEN NETIF_NAME) spell_named NamedFits (named_again NETIF_LEN NETIF_NAME)

pub returns-clause-list_spelled : goal.returns-clause-list_spelled
returns-clause-list_spelled c = counted_records_spelled NETIF_COUNT (named_at NETIF_LEN NETIF_NAME) spell_named NamedFits (named_spelled NETIF_LEN NETIF_NAME)
