use Rattle.diff_constraints.proofs.FilledLines.{line_filled}
use Rattle.diff_constraints.proofs.laws.constraint_lines_are_filled.Goals as goal

pub returns : goal.returns
returns c = line_filled
