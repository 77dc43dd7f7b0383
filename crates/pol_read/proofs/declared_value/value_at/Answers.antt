use Rattle.std.proofs.Common.{length, refl, ap, arith}
use Rattle.pol_read.proofs.NodeValues.{values_end}
use Rattle.pol_read.proofs.declared_value.value_at.Goals as goal

pub loop-left-init : goal.loop-left-init
loop-left-init c = record { same = refl; there = c.requires.value; start = refl }

pub unreachable-requires : goal.unreachable-requires
unreachable-requires c = omega (arith, c.loop-left.invariant.there, ap length (values_end c.args.symbols.now c.loop-left.left c.loop-left-test.false))
