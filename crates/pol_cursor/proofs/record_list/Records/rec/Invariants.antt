use Rattle.std.proofs.Common.{◌≡◌, take}
use Rattle.pol_cursor.specs.References.{values_of}
use Rattle.pol_cursor.proofs.record_list.Records.rec.Given as goal

-- the records before are in the list
abbrev pub invariant-loop-i : goal.invariant-loop-i
invariant-loop-i g l = l.list.items ≡ values_of (take l.i l.self)
