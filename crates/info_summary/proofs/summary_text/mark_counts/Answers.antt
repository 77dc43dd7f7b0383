use Rattle.std.proofs.Common.{refl}
use Rattle.info_summary.proofs.summary_text.mark_counts.Goals as goal

pub returns : goal.returns
returns c = rw (c.count.ensures, c.count-3.ensures, c.count-2.ensures, c.capabilities.ensures, c.requires) refl
