-- A checklist: the checks that a policy is held to (after the list that SETools' sechecker reads; what is refused is this project's own).
-- The whole list of lines decides, in their order.
use Rattle.std.specs.Prelude.{◌≡◌, ℕ, ◌+◌, Bool, true, ◌==◌, List, [], ◌∷◌, ◌++◌, length, Option, Some, None, option_map, Result, Ok, Err, ⊤, if◌then◌else◌}
use Rattle.std.specs.List.{find, fold, list_any}
use Rattle.std.specs.Str.{bytes_eq}
use Rattle.text_rows.specs.TextLines.{Row, lines_of, rows_from}
use Rattle.check_list.specs.declared.check_kind.CheckKind.{CheckKind}
use Rattle.check_list.specs.declared.check_kind.CheckKind.TheVariants.{EmptyTypeattr}
use Rattle.check_list.specs.declared.check_key.CheckKey.{CheckKey}
use Rattle.check_list.specs.declared.check_key.CheckKey.TheVariants.{Attr, MissingOk}
use Rattle.check_list.specs.declared.list_fault.ListCause.{ListCause}
use Rattle.check_list.specs.declared.list_fault.ListCause.TheVariants.{BadLine, NoCheck, Missing, DuplicateName, BadType, BadKey, BadValue}
use Rattle.check_list.specs.declared.list_fault.ListFault.{ListFault}
use Rattle.check_list.specs.declared.list_fault.ListError.{ListError}
use Rattle.check_list.specs.declared.list_fault.ListError.TheVariants.{Fault, Memory}
use Rattle.check_list.specs.CheckWords.{key_named, key_number}
use Rattle.check_list.specs.CheckLines.{Line, HeadingLine, SettingLine, is_truth, line_in, type_in}

-- what a key of a check says, and the number of its line
pub record Setting : Type 0 where
  pub key : CheckKey
  pub line : ℕ
  pub values : List (List ℕ)

-- a check is a heading and the settings up to the next heading, of which `check_type` is the first
pub record Check : Type 0 where
  pub name : List ℕ
  pub kind : CheckKind
  pub settings : List Setting

-- what the last heading began: nothing where there was none, a name where no line follows it yet, or a check
pub data Last : Type 0 where
  Nothing : Last
  Named : List ℕ → Last
  Begun : Check → Last

-- the checks of some lines; the last one may gain settings
pub record Written : Type 0 where
  pub checks : List Check
  pub last : Last

abbrev pub fault_at : ℕ → ListCause → ListFault
fault_at line cause = record { line = line; cause = cause }

-- ---- settings

abbrev pub has_key : CheckKey → List Setting → Bool
has_key key settings = list_any (λ setting. key_number key == key_number setting.key) settings

abbrev pub may_be : CheckKey → List (List ℕ) → Bool
may_be MissingOk values = is_truth values
may_be _ values = true

-- a check that gains a setting, or why it may not
abbrev pub with_key : Check → ℕ → List (List ℕ) → Option CheckKey → Result Check ListFault
with_key check number values None = Err (fault_at number BadKey)
with_key check number values (Some key) =
    if has_key key check.settings then Err (fault_at number BadKey) else
    if may_be key values then Ok (record { name = check.name; kind = check.kind; settings = check.settings ++ record { key = key; line = number; values = values } ∷ [] })
    else Err (fault_at number BadValue)

abbrev pub check_with : Check → ℕ → List ℕ → List (List ℕ) → Result Check ListFault
check_with check number key values = with_key check number values (key_named check.kind key)

-- the first setting gives the kind
abbrev pub begun : List ℕ → ℕ → Option CheckKind → Result Last ListFault
begun name number (Some kind) = Ok (Begun (record { name = name; kind = kind; settings = [] }))
begun name number None = Err (fault_at number BadType)

abbrev pub as_begun : Result Check ListFault → Result Last ListFault
as_begun (Ok check) = Ok (Begun check)
as_begun (Err fault) = Err fault

abbrev pub last_with : Last → ℕ → List ℕ → List (List ℕ) → Result Last ListFault
last_with Nothing number key values = Err (fault_at number NoCheck)
last_with (Named name) number key values = begun name number (type_in key values)
last_with (Begun check) number key values = as_begun (check_with check number key values)

-- ---- the end of a check

-- only `empty_typeattr` needs a key
abbrev pub is_whole_of : CheckKind → List Setting → Bool
is_whole_of EmptyTypeattr settings = has_key Attr settings
is_whole_of _ settings = true

abbrev pub is_whole : Check → Bool
is_whole check = is_whole_of check.kind check.settings

-- all checks, where the last one is whole; else it is faulty at the line that ends it
abbrev pub ended : List Check → Last → ℕ → Result (List Check) ListFault
ended checks Nothing number = Ok checks
ended checks (Named name) number = Err (fault_at number Missing)
ended checks (Begun check) number = if is_whole check then Ok (checks ++ check ∷ []) else Err (fault_at number Missing)

-- ---- lines

abbrev pub headed : List ℕ → ℕ → Result (List Check) ListFault → Result Written ListFault
headed name number (Ok checks) = if list_any (λ check. bytes_eq name check.name) checks then Err (fault_at number DuplicateName) else Ok (record { checks = checks; last = Named name })
headed name number (Err fault) = Err fault

abbrev pub gained : List Check → Result Last ListFault → Result Written ListFault
gained checks (Ok last) = Ok (record { checks = checks; last = last })
gained checks (Err fault) = Err fault

-- what stands after one more line, or its fault
abbrev pub with_line : Written → ℕ → Option Line → Result Written ListFault
with_line written number None = Err (fault_at number BadLine)
with_line written number (Some (HeadingLine name)) = headed name number (ended written.checks written.last number)
with_line written number (Some (SettingLine key values)) = gained written.checks (last_with written.last number key values)

abbrev pub with_row : Written → Row → Result Written ListFault
with_row written row = with_line written row.number (line_in row.fields)

-- the fault of a line stands, whatever follows
abbrev pub after_row : Result Written ListFault → Row → Result Written ListFault
after_row (Ok written) row = with_row written row
after_row (Err fault) row = Err fault

abbrev pub nothing : Written
nothing = record { checks = []; last = Nothing }

abbrev pub all_ended : ℕ → Result Written ListFault → Result (List Check) ListFault
all_ended past (Ok written) = ended written.checks written.last past
all_ended past (Err fault) = Err fault

-- The checks of a list in the order of its lines, or the fault of its first faulty line. The last check ends at the line past the last.
abbrev pub list_of : List ℕ → Result (List Check) ListFault
list_of bytes = all_ended (length (lines_of bytes) + 1) (fold after_row (Ok nothing) (rows_from 1 (lines_of bytes)))

-- ---- what is given

-- the values of a key, if it is given
abbrev pub given : Check → CheckKey → Option (List (List ℕ))
given check key = option_map (λ setting. setting.values) (find (λ setting. key_number key == key_number setting.key) check.settings)

abbrev pub values_or_none : Option (List (List ℕ)) → List (List ℕ)
values_or_none None = []
values_or_none (Some values) = values

-- the values of a key, of which there are none where it is not given
abbrev pub listed : Check → CheckKey → List (List ℕ)
listed check key = values_or_none (given check key)

-- ---- calls

-- what a call answers that may run out of memory, after which nothing is known
abbrev pub Answers : {A : Type 0} → Result A ListFault → Result A ListError → Type 0
Answers outcome (Ok x) = outcome ≡ Ok x
Answers outcome (Err (Fault fault)) = outcome ≡ Err fault
Answers outcome (Err Memory) = ⊤
