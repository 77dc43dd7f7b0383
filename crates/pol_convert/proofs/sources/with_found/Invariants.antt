use Rattle.std.proofs.Common.{◌≡◌, ◌≤◌, ◌+◌, ◌-◌, ◌^◌, length}
use Rattle.std.specs.Prelude.{min}
use Rattle.pol_bitmap.specs.Nodes.{bits_of}
use Rattle.pol_convert.specs.Inner.FoundSources.{found_sources}
use Rattle.pol_convert.proofs.sources.with_found.Given as goal

abbrev pub invariant-loop-bit : goal.invariant-loop-bit
invariant-loop-bit l =
    (l.count ≤ 2 ^ 64 - 1)
    × (min (l.count + length (found_sources l.declared l.bit-iterator)) (2 ^ 64 - 1) ≡ min (l.start + length (found_sources l.declared (bits_of l.sources))) (2 ^ 64 - 1))
