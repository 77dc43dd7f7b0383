use Rattle.std.proofs.Common.{◌+◌, ◌-◌, length}
use Rattle.info_symbols.specs.Inner.AliasLists.{SameLists}
use Rattle.info_symbols.proofs.aliases.Aliases.reach.Given as goal

abbrev pub invariant-lists : goal.invariant-lists
invariant-lists l = SameLists l.fn.self l.self-inside.lists.items

abbrev pub decreases-lists : goal.decreases-lists
decreases-lists l = l.value + 1 - length l.self-inside.lists.items
