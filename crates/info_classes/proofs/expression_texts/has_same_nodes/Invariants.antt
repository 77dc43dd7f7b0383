use Rattle.std.proofs.Common.{◌≡◌, take}
use Rattle.info_classes.proofs.expression_texts.has_same_nodes.Given as goal

abbrev pub invariant-loop-i : goal.invariant-loop-i
invariant-loop-i l = take l.i l.bitmap ≡ take l.i l.other
