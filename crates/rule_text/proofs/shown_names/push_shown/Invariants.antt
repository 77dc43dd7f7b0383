use Rattle.std.proofs.Common.{◌≡◌, ◌++◌, drop}
use Rattle.rule_text.specs.Inner.ClassPermissions.{shown_text}
use Rattle.rule_text.specs.Inner.ShownNames.{shown_left}
use Rattle.rule_text.proofs.shown_names.push_shown.Given as goal

-- what is written and what is left make the text
abbrev pub invariant-loop-permission : goal.invariant-loop-permission
invariant-loop-permission l = l.buffer.items ++ shown_left l.mask l.unwritten (drop l.permission-index l.sorted) ≡ l.fn.buffer.items ++ shown_text l.mask l.sorted
