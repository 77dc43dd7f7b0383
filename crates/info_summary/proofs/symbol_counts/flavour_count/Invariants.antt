use Rattle.std.proofs.Common.{◌≡◌, take}
use Rattle.info_summary.specs.Counts.{flavour_count}
use Rattle.info_summary.proofs.symbol_counts.flavour_count.Given as goal

abbrev pub invariant-loop-i : goal.invariant-loop-i
invariant-loop-i l = l.count ≡ flavour_count l.flavour (take l.i l.types.records)
