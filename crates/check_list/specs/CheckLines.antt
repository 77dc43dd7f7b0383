-- What single lines of a checklist say. 91 and 93 are brackets.
use Rattle.std.specs.Prelude.{ℕ, ◌-◌, Bool, false, ◌==◌, ◌&&◌, ◌||◌, not, nat_le, List, [], ◌∷◌, length, slice_index, slice_range, codes, Option, Some, None, option_map, if◌then◌else◌}
use Rattle.std.specs.List.{list_all}
use Rattle.std.specs.Str.{bytes_eq}
use Rattle.text_rows.specs.TextLines.{is_empty, is_word}
use Rattle.check_list.specs.declared.check_kind.CheckKind.{CheckKind}
use Rattle.check_list.specs.CheckWords.{is_name_byte, kind_named}

-- a line begins a check of that name, or says the values of a key
pub data Line : Type 0 where
  HeadingLine : List ℕ → Line
  SettingLine : List ℕ → List (List ℕ) → Line

abbrev pub in_brackets : List ℕ → Bool
in_brackets field = nat_le 3 (length field) && (slice_index field 0 == 91 && slice_index field (length field - 1) == 93)

-- what stands between the brackets
abbrev pub inner : List ℕ → List ℕ
inner field = slice_range field 1 (length field - 1)

-- the name of a field `[NAME]`
abbrev pub heading_in : List ℕ → Option (List ℕ)
heading_in field = if in_brackets field && list_all is_name_byte (inner field) then Some (inner field) else None

-- a heading is one field `[NAME]`, and a setting is a key, a sign and one value or more
abbrev pub line_in : List (List ℕ) → Option Line
line_in [] = None
line_in (field ∷ []) = option_map HeadingLine (heading_in field)
line_in (key ∷ sign ∷ values) =
    if (bytes_eq sign (codes "=") && not (is_empty values)) && (is_word key && list_all is_word values) then Some (SettingLine key values) else None

-- one field, where there are no others
abbrev pub only_of : List (List ℕ) → Option (List ℕ)
only_of (field ∷ []) = Some field
only_of _ = None

abbrev pub kind_of : Option (List ℕ) → Option CheckKind
kind_of (Some word) = kind_named word
kind_of None = None

-- the kind that `check_type = KIND` gives
abbrev pub type_in : List ℕ → List (List ℕ) → Option CheckKind
type_in key values = if bytes_eq key (codes "check_type") then kind_of (only_of values) else None

abbrev pub is_truth_word : Option (List ℕ) → Bool
is_truth_word (Some word) = bytes_eq word (codes "true") || bytes_eq word (codes "false")
is_truth_word None = false

-- the one word `true` or `false`
abbrev pub is_truth : List (List ℕ) → Bool
is_truth values = is_truth_word (only_of values)
