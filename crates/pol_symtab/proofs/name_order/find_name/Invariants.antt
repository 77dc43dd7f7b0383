use Rattle.std.proofs.Common.{◌-◌}
use Rattle.std.specs.Prelude.{map}
use Rattle.pol_symtab.specs.Inner.Namings.{its_name, naming}
use Rattle.pol_symtab.specs.Inner.TableIndex.{names_of}
use Rattle.pol_symtab.proofs.NameSearch.{IsBetween}
use Rattle.pol_symtab.proofs.name_order.find_name.Given as goal

abbrev pub invariant-loop-low : goal.invariant-loop-low
invariant-loop-low l = IsBetween (names_of its_name (map naming l.names)) l.by_name l.name l.low l.high

abbrev pub decreases-loop-low : goal.decreases-loop-low
decreases-loop-low l = l.high - l.low
