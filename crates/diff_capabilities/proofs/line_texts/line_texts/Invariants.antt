use Rattle.std.proofs.Common.{◌≡◌, ◌++◌, length}
use Rattle.diff_capabilities.proofs.line_texts.line_texts.Given as goal

abbrev pub invariant-lines : goal.invariant-lines
invariant-lines g l = l.texts.items ++ g.L.Lines.left l.lines ≡ g.L.Lines.left l.fn.lines

abbrev pub decreases-lines : goal.decreases-lines
decreases-lines g l = length (g.L.Lines.left l.lines)
