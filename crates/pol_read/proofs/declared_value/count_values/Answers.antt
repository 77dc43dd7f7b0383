use Rattle.std.proofs.Common.{length, refl, sym, ap, ◌∙◌, arith}
use Rattle.pol_read.proofs.NodeValues.{bits_few, fewer, values_none, values_end}
use Rattle.pol_read.proofs.declared_value.count_values.Goals as goal

pub loop-left-init : goal.loop-left-init
loop-left-init c = record { same = omega arith; few = omega (arith, bits_few c.args.node); start = refl }

pub loop-left-preserved-in-None : goal.loop-left-preserved-in-None
loop-left-preserved-in-None c =
    let split = c.split_lowest-bit.ensures.bits in
    let before = c.loop-left.invariant in
    record {
      same = omega (arith, before.same, ap length (values_none c.args.symbols.now c.loop-left.left c.split_lowest-bit.result.1 c.split_lowest-bit.result.0 split (sym (rw c.in-None.is at c.declared_value.ensures))));
      few = omega (arith, before.few, fewer c.args.symbols.now c.loop-left.left c.split_lowest-bit.result.1 c.split_lowest-bit.result.0 split);
      start = c.split_lowest-bit.ensures.start ∙ before.start;
    }

pub returns : goal.returns
returns c = omega (arith, c.loop-left.invariant.same, ap length (values_end c.args.symbols.now c.loop-left.left c.loop-left-test.false))
