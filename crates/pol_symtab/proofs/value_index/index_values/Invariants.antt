use Rattle.std.proofs.Common.{◌≡◌, ◌+◌, length}
use Rattle.std.specs.Prelude.{map, take}
use Rattle.pol_symtab.specs.Inner.Namings.{is_its_primary, its_value, naming}
use Rattle.pol_symtab.specs.Inner.TableIndex.{IsValueIndex}
use Rattle.pol_symtab.proofs.value_index.index_values.Given as goal

abbrev pub invariant-loop-i : goal.invariant-loop-i
invariant-loop-i l = (length l.by_value.items ≡ l.nprim + 1) × IsValueIndex is_its_primary its_value (take l.i (map naming l.names)) l.by_value.items
