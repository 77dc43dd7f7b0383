use Rattle.std.proofs.Common.{arith}
use Rattle.set_products.proofs.Rising.{bit_after_is, no_bit_after}
use Rattle.set_products.proofs.found.bit_after.Goals as goal

pub returns-in-Some : goal.returns-in-Some
returns-in-Some c i is =
    bit_after_is c.args.set.now c.requires c.next_from.result c.args.bit c.in-Some.from i c.in-Some.ensures.1 (c.next_from.ensures.some, c.next_from.ensures.none) is

pub returns-in-None : goal.returns-in-None
returns-in-None c i is = no_bit_after c.args.set.now c.requires c.args.bit i (omega (arith, c.in-None.ensures)) is
