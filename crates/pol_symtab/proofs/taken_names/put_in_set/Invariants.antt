use Rattle.std.proofs.Common.{take}
use Rattle.pol_symtab.specs.Inner.TakenMembers.{AreInSet}
use Rattle.pol_symtab.proofs.TakenNames.{names_of}
use Rattle.pol_symtab.proofs.taken_names.put_in_set.Given as goal

abbrev pub invariant-loop-name : goal.invariant-loop-name
invariant-loop-name l = AreInSet (names_of (take l.name-index l.names)) (names_of l.set.keys)
