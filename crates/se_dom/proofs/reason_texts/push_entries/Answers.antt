use Rattle.std.proofs.Common.{subst, sym}
use Rattle.dom_trans.specs.declared.EntryReason.{EntryReason}
use Rattle.se_dom.specs.Inner.ReasonRules.{AreEntryRules}
use Rattle.se_dom.proofs.reason_texts.push_entries.Goals as goal

pub push_entry-requires-clause-rules : goal.push_entry-requires-clause-rules
push_entry-requires-clause-rules c =
    subst (λ (reason : EntryReason). AreEntryRules c.args.texts.now reason) (sym c.entry-item.is) (c.requires.rules c.loop-entry.entry-index c.entry-item.result c.loop-entry-test.true)
