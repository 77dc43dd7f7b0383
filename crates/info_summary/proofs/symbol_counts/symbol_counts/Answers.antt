use Rattle.std.proofs.Common.{refl}
use Rattle.info_summary.proofs.symbol_counts.symbol_counts.Goals as goal

pub returns : goal.returns
returns c =
    rw (c.count.ensures, c.count-2.ensures, c.count-3.ensures, c.count-4.ensures, c.count-5.ensures, c.count-6.ensures, c.count-7.ensures, c.count-8.ensures, c.count-9.ensures)
    (rw (c.from.ensures, c.from-2.ensures, c.from-3.ensures, c.from-4.ensures, c.from-5.ensures, c.from-6.ensures, c.from-7.ensures, c.from-8.ensures, c.from-9.ensures)
    (rw (c.len.ensures, c.len-2.ensures, c.primary_count.ensures, c.primary_count-2.ensures, c.flavour_count.ensures, c.flavour_count-2.ensures, c.len-3.ensures, c.len-4.ensures, c.len-5.ensures) refl))
