use Rattle.std.proofs.Common.{◌≡◌, ◌++◌, take}
use Rattle.std.specs.List.{flat_map}
use Rattle.se_dom.specs.DomTexts.{entry_text}
use Rattle.se_dom.proofs.reason_texts.push_entries.Given as goal

abbrev pub invariant-loop-entry : goal.invariant-loop-entry
invariant-loop-entry l = l.buffer.items ≡ l.initial.buffer.items ++ flat_map (entry_text l.texts l.indent) (take l.entry-index l.entries)
