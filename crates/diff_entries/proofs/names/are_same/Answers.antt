use Rattle.std.proofs.Common.{◌∙◌}
use Rattle.diff_entries.proofs.SameNames.{same_by_bytes}
use Rattle.diff_entries.proofs.names.are_same.Goals as goal

pub returns : goal.returns
returns c = c.eq.ensures ∙ same_by_bytes c.args.names.now c.args.others.now
