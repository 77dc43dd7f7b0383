-- What the fields of one line of a permission map say, or the first cause to refuse them.
use Rattle.std.specs.Prelude.{ℕ, ◌+◌, ◌-◌, ◌*◌, Bool, ◌==◌, ◌&&◌, not, nat_le, List, [], ◌∷◌, length, codes, Option, Some, None, Result, Ok, Err, if◌then◌else◌}
use Rattle.std.specs.List.{fold, list_all}
use Rattle.std.specs.Str.{bytes_eq}
use Rattle.text_rows.specs.TextLines.{is_word}
use Rattle.perm_map.specs.declared.direction.Direction.{Direction}
use Rattle.perm_map.specs.declared.direction.Direction.TheVariants.{Read, Write, Both, No, Unmapped}
use Rattle.perm_map.specs.declared.map_fault.MapCause.{MapCause}
use Rattle.perm_map.specs.declared.map_fault.MapCause.TheVariants.{BadFields, BadName, BadNumber, BadDirection, BadWeight}

abbrev pub is_digit : ℕ → Bool
is_digit byte = nat_le 48 byte && nat_le byte 57

-- the number that decimal digits write
abbrev pub decimal : List ℕ → ℕ
decimal digits = fold (λ number digit. number * 10 + (digit - 48)) 0 digits

-- a number of 1 to 9 digits
unfoldable pub number_in : List ℕ → Option ℕ
number_in text = if (nat_le 1 (length text) && nat_le (length text) 9) && list_all is_digit text then Some (decimal text) else None

-- a direction is one letter: 114 is r, 119 w, 98 b, 110 n and 117 u
abbrev pub direction_by : ℕ → Option Direction
direction_by letter =
    if letter == 114 then Some Read else
    if letter == 119 then Some Write else
    if letter == 98 then Some Both else
    if letter == 110 then Some No else
    if letter == 117 then Some Unmapped else None

abbrev pub direction_in : List ℕ → Option Direction
direction_in (letter ∷ []) = direction_by letter
direction_in _ = None

-- a weight is 1 to 10
abbrev pub weight_within : Option ℕ → Option ℕ
weight_within (Some number) = if nat_le 1 number && nat_le number 10 then Some number else None
weight_within None = None

abbrev pub weight_written : List ℕ → Option ℕ
weight_written text = weight_within (number_in text)

-- what there is, or the cause that there is nothing
abbrev pub given_or : {A : Type 0} → MapCause → Option A → Result A MapCause
given_or cause (Some x) = Ok x
given_or cause None = Err cause

-- ---- the three kinds of lines

-- the line of the count of classes has that number alone
abbrev pub count_in : List (List ℕ) → Result ℕ MapCause
count_in (count ∷ []) = given_or BadNumber (number_in count)
count_in _ = Err BadFields

-- a class: its name, and how many lines of permissions follow
pub record ClassLine : Type 0 where
  pub name : List ℕ
  pub count : ℕ

abbrev pub class_of : List ℕ → Result ℕ MapCause → Result ClassLine MapCause
class_of name (Ok count) = Ok (record { name = name; count = count })
class_of name (Err cause) = Err cause

-- the line of a class is `class NAME COUNT`
abbrev pub class_in : List (List ℕ) → Result ClassLine MapCause
class_in (word ∷ name ∷ count ∷ []) =
    if not (bytes_eq word (codes "class")) then Err BadFields else
    if not (is_word name) then Err BadName else class_of name (given_or BadNumber (number_in count))
class_in _ = Err BadFields

-- a permission with its direction and its weight
pub record PermissionLine : Type 0 where
  pub name : List ℕ
  pub direction : Direction
  pub weight : ℕ

abbrev pub permission_of : List ℕ → Direction → Result ℕ MapCause → Result PermissionLine MapCause
permission_of name direction (Ok weight) = Ok (record { name = name; direction = direction; weight = weight })
permission_of name direction (Err cause) = Err cause

abbrev pub permission_to : List ℕ → List ℕ → Result Direction MapCause → Result PermissionLine MapCause
permission_to name weight (Ok direction) = permission_of name direction (given_or BadWeight (weight_written weight))
permission_to name weight (Err cause) = Err cause

-- the line of a permission is `NAME DIRECTION WEIGHT`
abbrev pub permission_in : List (List ℕ) → Result PermissionLine MapCause
permission_in (name ∷ direction ∷ weight ∷ []) =
    if not (is_word name) then Err BadName else permission_to name weight (given_or BadDirection (direction_in direction))
permission_in _ = Err BadFields
