use Rattle.std.proofs.Common.{◌≡◌, ◌+◌, take, sym}
use Rattle.pol_cursor.specs.References.{Placed}
use Rattle.pol_datums.specs.declared.TypeRec.{TypeRec}
use Rattle.pol_datums.specs.TypeRecord.{flavour_of}
use Rattle.pol_expand.specs.Flavours.{is_flavour}
use Rattle.info_summary.specs.Counts.{flavour_count}
use Rattle.info_summary.proofs.Counting.{one_more}
use Rattle.info_summary.proofs.symbol_counts.flavour_count.Goals as goal

pub loop-i-preserved : goal.loop-i-preserved
loop-i-preserved c =
    let more : c.loop-i.count + c.one_if-count.result ≡ flavour_count c.args.flavour (take (c.loop-i.i + 1) c.args.types.now.records) =
    rw (c.one_if-count.ensures, c.is_flavour.ensures, c.flavour.ensures, c.loop-i.invariant) (sym (one_more (λ (t : Placed TypeRec). is_flavour c.args.flavour (flavour_of t.value.properties)) c.args.types.now.records c.loop-i.i c.view.result c.view.ensures)) in
    more
