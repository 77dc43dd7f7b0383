use Rattle.se_tools.proofs.Resumed.{lines_then}
use Rattle.se_tools.proofs.laws.command_lines_resume.Goals as goal

pub returns : goal.returns
returns c = lines_then
