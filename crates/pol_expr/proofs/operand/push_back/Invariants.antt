use Rattle.std.proofs.Common.{◌≡◌, ◌++◌, take}
use Rattle.pol_expr.proofs.operand.push_back.Given as goal

abbrev pub invariant-loop-byte : goal.invariant-loop-byte
invariant-loop-byte l = l.text.items ≡ l.fn.text.items ++ take l.byte-index l.word
