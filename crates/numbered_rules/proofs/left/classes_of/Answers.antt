use Rattle.std.proofs.Common.{ap, ◌∙◌}
use Rattle.pol_bitmap.specs.Nodes.{bits_of}
use Rattle.numbered_rules.specs.NumberedRules.{has}
use Rattle.numbered_rules.proofs.LeftFacts.{values_had}
use Rattle.numbered_rules.proofs.left.classes_of.Goals as goal

pub returns : goal.returns
returns c class =
    values_had (bits_of c.in_ok-from_values.field-0) c.in_ok-classes.classes.items c.in_ok-from_values.ensures.bits class ∙ ap (λ ns. has ns class) c.in_ok-classes.ensures
