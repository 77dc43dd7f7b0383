use Rattle.pol_fields.specs.declared.fields.TheConstants.{IBPKEY_COUNT}
use Rattle.pol_cursor.proofs.Laws.{counted_records_spelled, counted_records_again}
use Rattle.pol_contexts.specs.IbPkeyRecord.{ibpkey_at, spell_ibpkey, IbPkeyFits}
use Rattle.pol_contexts.proofs.ContextLaws.{ibpkey_spelled, ibpkey_again}
use Rattle.pol_contexts.proofs.laws.partition_keys_have_laws.Goals as goal

pub returns-clause-again : goal.returns-clause-again
returns-clause-again c = ibpkey_again

pub returns-clause-spelled : goal.returns-clause-spelled
returns-clause-spelled c = ibpkey_spelled

pub returns-clause-list_again : goal.returns-clause-list_again
returns-clause-list_again c = counted_records_again IBPKEY_COUNT ibpkey_at spell_ibpkey IbPkeyFits ibpkey_again

pub returns-clause-list_spelled : goal.returns-clause-list_spelled
returns-clause-list_spelled c = counted_records_spelled IBPKEY_COUNT ibpkey_at spell_ibpkey IbPkeyFits ibpkey_spelled
