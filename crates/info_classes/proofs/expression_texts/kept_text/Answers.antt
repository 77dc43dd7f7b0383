use Rattle.std.proofs.Common.{List, get_or, subst, ◌∙◌}
use Rattle.pol_constraints.specs.declared.ConstraintItem.{ConstraintItem}
use Rattle.info_classes.specs.Inner.ExpressionTexts.{SayTheSame}
use Rattle.info_classes.proofs.ExpressionTexts.{found_says}
use Rattle.info_classes.proofs.expression_texts.kept_text.Goals as goal

pub returns-then-say_the_same : goal.returns-then-say_the_same
returns-then-say_the_same c =
    let kept = c.kept-item.result in
    let d = c.index-entries-kept.result in
    let entry = get_or c.args.entries.now kept.number d in
    let items = c.args.constraint.now.items in
    let said : SayTheSame c.items.result c.items-in-loop-kept.result = c.say_the_same.ensures c.if-say_the_same.true in
    let same : SayTheSame entry.constraint.items items =
    subst (SayTheSame entry.constraint.items) c.items-in-loop-kept.ensures.all (subst (λ (xs : List ConstraintItem). SayTheSame xs c.items-in-loop-kept.result) c.items.ensures.all said) in
    c.as_slice.ensures.value ∙ found_says c.args.symbols.now c.args.entries.now c.args.texts.now c.loop-kept.kept-index kept d items c.requires c.loop-kept-test.true c.kept-item.is same
