use Rattle.std.proofs.Common.{ℕ, ap, sym, ◌∙◌}
use Rattle.pol_expr.specs.Postfix.{values_after}
use Rattle.pol_constraints.specs.ConstraintRecord.{kind_operands}
use Rattle.pol_constraints.proofs.ItemReading.{item_read}
use Rattle.pol_constraints.proofs.constraint_reading.pass_item.Goals as goal

pub returns : goal.returns
returns c =
    let sets = c.in_ok-pass_sets.ensures in
    let h = item_read c.args.version c.args.xtarget c.args.left c.args.values c.args.c.now c.u32.new.self c.u32-2.new.self c.u32-3.new.self c.pass_sets.new.c c.in_ok-kind.kind c.in_ok-attr.attr c.in_ok-op.op
    c.in_ok-kind.ensures.exact (sym c.kind_cause.ensures.exact ∙ c.in_ok-refuse.ensures)
    c.in_ok-attr.ensures.exact (sym c.attr_cause.ensures ∙ c.in_ok-refuse-2.ensures)
    c.in_ok-op.ensures.exact (sym c.op_cause.ensures ∙ c.in_ok-refuse-3.ensures)
    sets.exact sets.next sets.long sets.has in
    let fits = rw c.in_ok-refuse.ensures at c.kind_cause.ensures.fits in
    record {
      exact = h.exact;
      next = h.next;
      has = h.has;
      values = (rw c.kind_operands.ensures.exact (ap (λ (k : ℕ). values_after c.args.values (kind_operands k)) h.kind_is), rw c.kind_operands.ensures.exact fits.1);
    }
