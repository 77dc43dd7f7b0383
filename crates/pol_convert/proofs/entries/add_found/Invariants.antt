use Rattle.std.proofs.Common.{◌≡◌, ◌++◌, map}
use Rattle.pol_bitmap.specs.Nodes.{bits_of}
use Rattle.pol_convert.specs.Ungrouped.{entry_of}
use Rattle.pol_convert.specs.Inner.FoundSources.{found_sources}
use Rattle.pol_convert.proofs.entries.add_found.Given as goal

abbrev pub invariant-loop-bit : goal.invariant-loop-bit
invariant-loop-bit l =
    l.entries.items ++ map (entry_of l.group l.default) (found_sources l.declared l.bit-iterator) ≡ l.initial.entries.items ++ map (entry_of l.group l.default) (found_sources l.declared (bits_of l.sources))
