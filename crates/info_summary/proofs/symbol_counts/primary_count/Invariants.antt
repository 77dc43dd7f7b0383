use Rattle.std.proofs.Common.{◌≡◌, take}
use Rattle.info_summary.specs.Counts.{primary_count}
use Rattle.info_summary.proofs.symbol_counts.primary_count.Given as goal

abbrev pub invariant-loop-i : goal.invariant-loop-i
invariant-loop-i g l = l.count ≡ primary_count g.K.SymbolKind.is_primary (take l.i l.table.records)
