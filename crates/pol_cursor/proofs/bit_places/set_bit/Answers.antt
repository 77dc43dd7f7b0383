use Rattle.std.proofs.Common.{arith}
use Rattle.pol_cursor.proofs.BitPlaces.{bit_set}
use Rattle.pol_cursor.proofs.bit_places.set_bit.Goals as goal

pub returns : goal.returns
returns c other = bit_set c.args.bits.now c.args.place other (omega (arith, c.requires))
