use Rattle.std.proofs.Common.{◌∙◌, sym, option_map}
use Rattle.info_contexts.proofs.GenfsEntries.{asked_more}
use Rattle.info_contexts.proofs.genfs_entry.genfs_entries.Goals as goal

pub loop-i-preserved : goal.loop-i-preserved
loop-i-preserved c =
    c.in_ok-push_asked.ensures ∙ rw c.loop-i.invariant (sym (asked_more (option_map (λ name. name.now) c.args.name) c.args.systems.now c.loop-i.i c.view.result c.view.ensures))
