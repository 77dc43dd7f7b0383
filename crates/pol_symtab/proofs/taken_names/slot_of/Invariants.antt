use Rattle.std.proofs.Common.{◌≡◌, take}
use Rattle.std.specs.Prelude.{fold}
use Rattle.pol_symtab.specs.Inner.TakenMembers.{hashed}
use Rattle.pol_symtab.proofs.taken_names.slot_of.Given as goal

abbrev pub invariant-loop-byte : goal.invariant-loop-byte
invariant-loop-byte l = l.hash ≡ fold hashed 0 (take l.byte-index l.name)
