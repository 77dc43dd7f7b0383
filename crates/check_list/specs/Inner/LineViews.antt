-- Lines and settings as the code holds them.
use Rattle.std.specs.Prelude.{◌≡◌, Result, Ok, Err, ⊤}
use Rattle.text_rows.specs.TextLines.{fields_in}
use Rattle.check_list.specs.declared.lines.Line.{Line as LineCode}
use Rattle.check_list.specs.declared.lines.Line.TheVariants as lines
use Rattle.check_list.specs.declared.check.Setting.{Setting as SettingCode}
use Rattle.check_list.specs.declared.list_fault.ListFault.{ListFault}
use Rattle.check_list.specs.declared.list_fault.ListError.{ListError}
use Rattle.check_list.specs.declared.list_fault.ListError.TheVariants.{Fault, Memory}
use Rattle.check_list.specs.CheckLines.{Line, HeadingLine, SettingLine}
use Rattle.check_list.specs.Checklists.{Setting}

abbrev pub line_of : LineCode → Line
line_of (lines.Heading name) = HeadingLine name.now
line_of (lines.Setting line) = SettingLine line.key.now (fields_in line.values.now)

abbrev pub setting_of : SettingCode → Setting
setting_of setting = record { key = setting.key; line = setting.line; values = fields_in setting.values.now }

-- what a call answers that may run out of memory, as it is shown
abbrev pub AnswersAs : {A B : Type 0} → (A → B) → Result B ListFault → Result A ListError → Type 0
AnswersAs shown outcome (Ok x) = outcome ≡ Ok (shown x)
AnswersAs shown outcome (Err (Fault fault)) = outcome ≡ Err fault
AnswersAs shown outcome (Err Memory) = ⊤
