use Rattle.std.proofs.Common.{◌≡◌, string_bytes, bytes_eq, true, false}
use Rattle.se_outside.proofs.Found.{step-here, step-before}
use Rattle.se_outside.proofs.mem_slot.find.Goals as goal
use Rattle.se_outside.proofs.mem_slot.find.Goals.{then-eq, else-eq}

pub loop-i-preserved : goal.loop-i-preserved
loop-i-preserved c =
    elim c.if-eq.branch [
      | then-eq w ↦
          let same : bytes_eq (string_bytes c.index-files-i.result.name) c.args.name.now ≡ true = cc (c.eq.ensures, c.as_str.ensures.value, w.if-eq.true) in
          step-here c.args.files.now c.loop-i.i c.index-files-i.result c.args.name.now c.if-eq.found c.loop-i-test.true c.index-files-i.is same w.found-is
      | else-eq w ↦
          let other : bytes_eq (string_bytes c.index-files-i.result.name) c.args.name.now ≡ false = cc (c.eq.ensures, c.as_str.ensures.value, w.if-eq.false) in
          step-before c.args.files.now c.loop-i.i c.index-files-i.result c.args.name.now c.if-eq.found c.loop-i.found c.loop-i-test.true c.index-files-i.is other w.found-is c.loop-i.invariant
    ]
