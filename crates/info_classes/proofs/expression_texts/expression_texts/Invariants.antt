use Rattle.std.specs.List.{All}
use Rattle.info_classes.specs.Inner.ExpressionTexts.{IsKept}
use Rattle.info_classes.proofs.expression_texts.expression_texts.Given as goal

abbrev pub invariant-loop-number : goal.invariant-loop-number
invariant-loop-number l = All (IsKept l.symbols l.entries) l.texts.items
