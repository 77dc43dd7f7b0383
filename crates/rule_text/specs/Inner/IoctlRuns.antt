-- How the text of ioctl numbers is written while they come one after the other: what serves the code alone.
use Rattle.std.specs.Prelude.{ℕ, ◌+◌, ◌-◌, List, ◌++◌, codes, map}
use Rattle.std.specs.List.{range_with_len}
use Rattle.pol_mls.specs.MlsTexts.{runs_of}
use Rattle.pol_texts.specs.SetTexts.{listed}
use Rattle.rule_text.specs.declared.ioctl_run.Run.{Run}
use Rattle.rule_text.specs.declared.ioctl_run.Unwritten.{Unwritten}
use Rattle.rule_text.specs.declared.ioctl_run.Unwritten.TheVariants.{Nothing, First, Later}
use Rattle.rule_text.specs.IoctlTexts.{run_text, runs_text}

-- the numbers from its first to its last
abbrev pub numbers_in : Run → List ℕ
numbers_in run = range_with_len run.first (run.last - run.first + 1)

-- what is still to be written: of all the numbers, where none has come, or of the run and the numbers after it
abbrev pub text_left : Unwritten → List ℕ → List ℕ
text_left Nothing numbers = runs_text numbers
text_left (First run) numbers = runs_text (numbers_in run ++ numbers)
text_left (Later run) numbers = listed (map run_text (runs_of (numbers_in run ++ numbers))) ++ codes " }"
