use Rattle.std.proofs.Common.{◌≡◌, ◌++◌, map}
use Rattle.std.specs.List.{range_with_len}
use Rattle.pol_make.specs.MadeSymbols.{made_attribute}
use Rattle.pol_make.proofs.make_types.push_attributes.Given as goal

abbrev pub invariant-loop-i : goal.invariant-loop-i
invariant-loop-i l = l.types.items ≡ l.initial.types.items ++ map (made_attribute l.n) (range_with_len 1 l.i)
