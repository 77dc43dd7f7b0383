use Rattle.std.proofs.Common.{arith}
use Rattle.perm_map.proofs.Digits.{few_digits}
use Rattle.perm_map.proofs.numbers.decimal.Goals as goal

pub overflow_mul-number : goal.overflow_mul-number
overflow_mul-number c =
    let few = few_digits c.loop-digit.number c.loop-digit.digit-index c.loop-digit.invariant.1 (omega arith) in
    omega (arith, few)

pub overflow_add-number : goal.overflow_add-number
overflow_add-number c =
    let few = few_digits c.loop-digit.number c.loop-digit.digit-index c.loop-digit.invariant.1 (omega arith) in
    omega (arith, few)
