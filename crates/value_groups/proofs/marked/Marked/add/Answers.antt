use Rattle.std.proofs.Common.{◌<◌, sym, ap, ◌∙◌, arith}
use Rattle.value_groups.specs.Inner.Marking.{MarkedValues}
use Rattle.value_groups.proofs.Marks.{marks_more}
use Rattle.value_groups.proofs.marked.Marked.add.Goals as goal

pub invariant_of-self-2 : goal.invariant_of-self-2
invariant_of-self-2 c =
    let marks = c.self.inside.marks in
    let lt : c.args.value < marks.count = omega (arith, c.requires, ap (λ (m : MarkedValues). m.count) c.self.view_is) in
    rw (c.in_ok-push.ensures.items) (marks_more marks c.add.new.self c.self.inside.values.items c.args.value c.self.invariant lt (sym c.has.ensures ∙ c.if-has.false) c.add.ensures.count c.add.ensures.each)
