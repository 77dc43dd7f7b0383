use Rattle.std.proofs.Common.{◌≡◌, take}
use Rattle.std.specs.List.{filter}
use Rattle.info_symbols.specs.TypeListings.{number_in}
use Rattle.info_symbols.proofs.type_sets.numbers_in.Given as goal

abbrev pub invariant-loop-number : goal.invariant-loop-number
invariant-loop-number l = l.kept.items ≡ filter (number_in l.policy l.set) (take l.number-index l.numbers)
