-- A run of categories that is not written yet.
use Rattle.std.specs.Prelude.{ℕ, ◌+◌, ◌-◌, Option, Some, None, List, ◌++◌}
use Rattle.std.specs.List.{range_with_len}
use Rattle.pol_cursor.specs.References.{Named}
use Rattle.pol_mls.specs.declared.run.Run.{Run}
use Rattle.pol_mls.specs.MlsTexts.{runs_text, categories_text}

-- the values from its first to its last
abbrev pub values_of : Run → List ℕ
values_of run = range_with_len run.first (run.last - run.first + 1)

-- the text that is still to be written: of all the values, where none has come, or of the run and the values after it
abbrev pub text_left : Named → Option Run → List ℕ → List ℕ
text_left named None values = categories_text named values
text_left named (Some run) values = runs_text named (values_of run ++ values)
