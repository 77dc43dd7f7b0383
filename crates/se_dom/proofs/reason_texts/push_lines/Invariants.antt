use Rattle.std.proofs.Common.{◌≡◌, ◌++◌, take}
use Rattle.std.specs.List.{flat_map}
use Rattle.se_dom.specs.DomTexts.{reason_line}
use Rattle.se_dom.proofs.reason_texts.push_lines.Given as goal

abbrev pub invariant-loop-number : goal.invariant-loop-number
invariant-loop-number l = l.buffer.items ≡ l.initial.buffer.items ++ flat_map (reason_line l.texts l.indent l.word) (take l.number-index l.numbers)
