use Rattle.std.proofs.Common.{refl}
use Rattle.info_summary.proofs.context_counts.context_counts.Goals as goal

pub returns : goal.returns
returns c =
    rw (c.count.ensures, c.count-2.ensures, c.count-3.ensures, c.count-4.ensures, c.count-5.ensures, c.count-6.ensures, c.count-7.ensures, c.count-8.ensures)
    (rw (c.from.ensures, c.from-2.ensures, c.from-3.ensures, c.from-4.ensures, c.from-5.ensures, c.from-6.ensures)
    (rw (c.len.ensures, c.len-2.ensures, c.len-3.ensures, c.len-4.ensures, c.len-5.ensures, c.len-6.ensures, c.path_count.ensures, c.node_count.ensures, c.genfs.ensures, c.contexts-contexts.ensures) refl))
