use Rattle.std.proofs.Common.{arith}
use Rattle.pol_write.proofs.JudgedBytes.{accepted_bytes, refused_bytes}
use Rattle.pol_write.proofs.writing.check.Goals as goal
use Rattle.pol_write.proofs.writing.check.Goals.{in-Ok, in-Err-Memory, in-Err-Fault}

pub returns : goal.returns
returns c = elim c.match-read_file.branch [
  | in-Ok w ↦ rw w.result-is (accepted_bytes c.args.bytes.now _ (omega (arith, c.if-bytes-gt-MAX_POLICY_BYTES.false)) (rw w.in-Ok.is at c.read_file.ensures))
  | in-Err-Memory w ↦ rw w.result-is tt
  | in-Err-Fault w ↦ rw w.result-is (refused_bytes c.args.bytes.now _ (omega (arith, c.if-bytes-gt-MAX_POLICY_BYTES.false)) (rw (w.in-Err-Fault.is, w.in-Err-Fault.field-0-is) at c.read_file.ensures))
]
