use Rattle.info_classes.specs.Inner.ExpressionTexts.{SayTheSame}
use Rattle.info_classes.proofs.expression_texts.say_the_same.Given as goal

-- where what is left says the same, the whole does
abbrev pub invariant-loop-item : goal.invariant-loop-item
invariant-loop-item l = SayTheSame l.item-iterator l.others → SayTheSame l.fn.items l.fn.others
