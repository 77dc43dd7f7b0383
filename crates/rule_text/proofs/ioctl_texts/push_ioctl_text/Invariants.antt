use Rattle.std.proofs.Common.{◌≡◌, ◌++◌}
use Rattle.rule_text.specs.IoctlTexts.{ioctl_text}
use Rattle.rule_text.specs.Inner.IoctlRuns.{text_left}
use Rattle.rule_text.proofs.ioctl_texts.push_ioctl_text.Given as goal

-- what is written and what is left make the text
abbrev pub invariant-loop-number : goal.invariant-loop-number
invariant-loop-number l = l.buffer.items ++ text_left l.unwritten l.number-iterator ≡ l.fn.buffer.items ++ ioctl_text l.numbers
