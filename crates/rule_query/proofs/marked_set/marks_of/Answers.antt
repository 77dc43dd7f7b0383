use Rattle.std.proofs.Common.{◌∙◌, ap}
use Rattle.std.specs.Prelude.{◌||◌}
use Rattle.pol_bitmap.specs.Nodes.{bits_of}
use Rattle.value_groups.specs.Among.{is_among}
use Rattle.value_groups.specs.Inner.Marking.{MarkedValues}
use Rattle.value_groups.proofs.Words.{among_bits}
use Rattle.rule_query.proofs.marked_set.marks_of.Goals as goal

pub returns : goal.returns
returns c = λ value.
    c.add_set.ensures.each value ∙ ap (λ (marks : MarkedValues). is_among marks.values value || is_among (bits_of c.args.set.now) value) c.in_ok-marks.ensures
    ∙ among_bits c.args.set.now value
