use Rattle.std.proofs.Common.{◌≡◌, ◌++◌, take}
use Rattle.std.specs.List.{flat_map}
use Rattle.se_flow.specs.FlowTexts.{rule_line}
use Rattle.se_flow.proofs.flow_texts.push_rules.Given as goal

abbrev pub invariant-loop-number : goal.invariant-loop-number
invariant-loop-number l = l.buffer.items ≡ l.initial.buffer.items ++ flat_map (rule_line l.texts l.indent) (take l.number-index l.numbers)
