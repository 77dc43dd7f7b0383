use Rattle.se_make.proofs.Made.{made_accepted, made_few}
use Rattle.se_make.proofs.making.write_read.Goals as goal

pub read-requires : goal.read-requires
read-requires g c = made_few c.args.types c.args.bytes.now c.requires.types c.requires.bytes

pub unreachable-requires : goal.unreachable-requires
unreachable-requires g c =
    made_accepted c.args.types c.args.bytes.now c.in-Err-Fault.field-0-0 c.requires.types c.requires.bytes (rw (c.in-Err-Fault.is, c.in-Err-Fault.field-0-is) at c.read.ensures)
