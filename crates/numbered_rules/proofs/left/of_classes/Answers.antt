use Rattle.std.proofs.Common.{◌∙◌}
use Rattle.pol_bitmap.specs.Nodes.{bits_of}
use Rattle.numbered_rules.specs.NumberedRules.{has}
use Rattle.numbered_rules.proofs.LeftFacts.{classes_kept, sets_kept}
use Rattle.numbered_rules.proofs.left.of_classes.Goals as goal

pub returns-clause-sets : goal.returns-clause-sets
returns-clause-sets c sets have =
    c.in_ok-sorted.ensures.sets sets (sets_kept sets (λ form. has (bits_of c.in_ok-classes.classes) form.class) c.args.forms.now c.deref.result.now (c.deref.ensures.value ∙ c.in_ok-kept.ensures) have)

pub returns-clause-classes : goal.returns-clause-classes
returns-clause-classes c sets =
    classes_kept sets c.args.left.now c.args.forms.now c.deref.result.now c.in_ok-sorted.field-0.items (bits_of c.in_ok-classes.classes) c.in_ok-classes.ensures (c.deref.ensures.value ∙ c.in_ok-kept.ensures) c.in_ok-sorted.ensures.same
