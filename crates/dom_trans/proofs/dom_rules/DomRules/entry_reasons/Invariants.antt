use Rattle.std.proofs.Common.{◌≡◌, map, take}
use Rattle.dom_trans.specs.ReasonLists.{entry_reason}
use Rattle.dom_trans.proofs.dom_rules.DomRules.entry_reasons.Given as goal

abbrev pub invariant-loop-entry : goal.invariant-loop-entry
invariant-loop-entry l = l.reasons.items ≡ map (entry_reason l.self l.a l.b) (take l.entry-index l.entries)
