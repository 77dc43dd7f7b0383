use Rattle.std.proofs.Common.{refl}
use Rattle.info_summary.proofs.summary_text.header_entries.Goals as goal

pub returns : goal.returns
returns c = rw (c.count.ensures, c.from.ensures, c.version.ensures, c.unknown_word.ensures, c.config.ensures) refl
