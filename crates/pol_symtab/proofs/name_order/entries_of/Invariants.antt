use Rattle.std.proofs.Common.{◌≡◌}
use Rattle.std.specs.Prelude.{map, take}
use Rattle.std.specs.List.{All}
use Rattle.pol_symtab.specs.Inner.Namings.{its_name, is_its_primary, naming}
use Rattle.pol_symtab.specs.Inner.NamePrefixes.{HasPrefix}
use Rattle.pol_symtab.specs.Inner.TableIndex.{seen, numbered}
use Rattle.pol_symtab.proofs.name_order.entries_of.Given as goal

abbrev pub invariant-loop-number : goal.invariant-loop-number
invariant-loop-number l =
    (map seen l.entries.items ≡ numbered its_name is_its_primary 0 (take l.number (map naming l.names)))
    × All HasPrefix l.entries.items
