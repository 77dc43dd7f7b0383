use Rattle.std.proofs.Common.{take}
use Rattle.se_outside.specs.MemSlot.{IsFound}
use Rattle.se_outside.proofs.mem_slot.find.Given as goal

abbrev pub invariant-loop-i : goal.invariant-loop-i
invariant-loop-i l = IsFound (take l.i l.files) l.name l.found
