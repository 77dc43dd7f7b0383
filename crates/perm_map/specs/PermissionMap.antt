-- A permission map: how information flows by the permissions of classes (the file that SETools' seinfoflow reads; what is refused is
-- this project's own). The whole list of lines decides, in their order.
use Rattle.std.specs.Prelude.{◌≡◌, ℕ, zero, suc, ◌+◌, Bool, ◌&&◌, List, [], ◌∷◌, ◌++◌, length, find, reverse, option_map, Option, Result, Ok, Err, ⊤}
use Rattle.std.specs.Str.{bytes_eq}
use Rattle.perm_map.specs.declared.direction.Direction.{Direction}
use Rattle.perm_map.specs.declared.map_fault.MapCause.{MapCause}
use Rattle.perm_map.specs.declared.map_fault.MapCause.TheVariants.{Missing, Extra}
use Rattle.perm_map.specs.declared.map_fault.MapFault.{MapFault}
use Rattle.perm_map.specs.declared.map_fault.MapError.{MapError}
use Rattle.perm_map.specs.declared.map_fault.MapError.TheVariants.{Fault, Memory}
use Rattle.text_rows.specs.TextLines.{Row, lines_of, rows_from}
use Rattle.perm_map.specs.MapFields.{PermissionLine, class_in, count_in, permission_in}

-- one entry of a map
pub record Entry : Type 0 where
  pub class : List ℕ
  pub permission : List ℕ
  pub direction : Direction
  pub weight : ℕ

-- ---- reading lines

-- What is read of the lines that are left: a value and the lines after it, or the fault of the first faulty line.
abbrev pub Reading : Type 0 → Type 0
Reading A = Result (A × List Row) MapFault

-- one after the other
abbrev pub and_then : {A B : Type 0} → Reading A → (A → List Row → Reading B) → Reading B
and_then (Ok got) next = next got.0 got.1
and_then (Err fault) next = Err fault

abbrev pub fault_at : ℕ → MapCause → MapFault
fault_at line cause = record { line = line; cause = cause }

abbrev pub said_at : {A : Type 0} → ℕ → List Row → Result A MapCause → Reading A
said_at number rows (Ok x) = Ok (x, rows)
said_at number rows (Err cause) = Err (fault_at number cause)

-- what the next line says; where there is none, it is missing at the line past the last
abbrev pub next_line : {A : Type 0} → (List (List ℕ) → Result A MapCause) → ℕ → List Row → Reading A
next_line says past [] = Err (fault_at past Missing)
next_line says past (row ∷ rows) = said_at row.number rows (says row.fields)

-- entries so many times, one after the other
abbrev pub times : ℕ → (List Row → Reading (List Entry)) → List Row → Reading (List Entry)
times zero read rows = Ok ([], rows)
times (suc count) read rows = and_then (read rows) (λ first left. and_then (times count read left) (λ others rest. Ok (first ++ others, rest)))

-- the entry of a class that a line of a permission is
abbrev pub entry_of : List ℕ → PermissionLine → Entry
entry_of class line = record { class = class; permission = line.name; direction = line.direction; weight = line.weight }

abbrev pub permission_at : ℕ → List ℕ → List Row → Reading (List Entry)
permission_at past class rows = and_then (next_line permission_in past rows) (λ line rest. Ok (entry_of class line ∷ [], rest))

-- a class is its line and the lines of its permissions
abbrev pub class_at : ℕ → List Row → Reading (List Entry)
class_at past rows = and_then (next_line class_in past rows) (λ class rest. times class.count (permission_at past class.name) rest)

-- a count, and so many classes
abbrev pub classes_at : ℕ → List Row → Reading (List Entry)
classes_at past rows = and_then (next_line count_in past rows) (λ count rest. times count (class_at past) rest)

-- after the last class there is no line
abbrev pub ended : Reading (List Entry) → Result (List Entry) MapFault
ended (Ok (entries, [])) = Ok entries
ended (Ok (entries, row ∷ rows)) = Err (fault_at row.number Extra)
ended (Err fault) = Err fault

-- the entries of a map in the order of its lines, or its fault
abbrev pub map_of : List ℕ → Result (List Entry) MapFault
map_of bytes = ended (classes_at (length (lines_of bytes) + 1) (rows_from 1 (lines_of bytes)))

-- ---- weights

-- by the names of a class and a permission: the direction and the weight, if the map has them
abbrev pub Weights : Type 0
Weights = List ℕ → List ℕ → Option (Direction × ℕ)

abbrev pub is_for : List ℕ → List ℕ → Entry → Bool
is_for class permission entry = bytes_eq class entry.class && bytes_eq permission entry.permission

-- the direction and the weight of the last entry for the class and permission
abbrev pub weights_of : List Entry → Weights
weights_of entries class permission = option_map (λ entry. (entry.direction, entry.weight)) (find (is_for class permission) (reverse entries))

-- a map that was read has the weights of all entries, and a refused one its fault
abbrev pub IsMap : Result (List Entry) MapFault → Result (List Entry) MapError → Type 0
IsMap outcome (Ok kept) = (entries : List Entry) × (outcome ≡ Ok entries) × (weights_of kept ≡ weights_of entries)
IsMap outcome (Err (Fault fault)) = outcome ≡ Err fault
IsMap outcome (Err Memory) = ⊤
