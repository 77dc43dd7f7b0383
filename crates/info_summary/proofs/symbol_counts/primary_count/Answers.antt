use Rattle.std.proofs.Common.{◌≡◌, ◌+◌, take, sym}
use Rattle.info_summary.specs.Counts.{primary_count}
use Rattle.info_summary.proofs.Counting.{one_more}
use Rattle.info_summary.proofs.symbol_counts.primary_count.Goals as goal

pub loop-i-preserved : goal.loop-i-preserved
loop-i-preserved g c =
    let more : c.loop-i.count + c.one_if-count.result ≡ primary_count g.K.SymbolKind.is_primary (take (c.loop-i.i + 1) c.args.table.now.records) =
    rw (c.one_if-count.ensures, c.is_primary.ensures, c.loop-i.invariant) (sym (one_more (λ r. g.K.SymbolKind.is_primary r.value) c.args.table.now.records c.loop-i.i (g.K.RecordView.shown c.view.result) c.view.ensures)) in
    more
