use Rattle.std.proofs.Common.{◌≡◌, map}
use Rattle.std.specs.List.{range_with_len}
use Rattle.pol_make.specs.MadeSymbols.{made_category}
use Rattle.pol_make.proofs.make_symbols.make_categories.Given as goal

abbrev pub invariant-loop-number : goal.invariant-loop-number
invariant-loop-number l = l.categories.items ≡ map made_category (range_with_len 0 l.number)
