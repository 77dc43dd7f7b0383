-- What the code that reads a map keeps: the lines that are left, and the weights of the entries before them.
use Rattle.std.specs.Prelude.{◌≡◌, ℕ, List, [], ◌∷◌, Option, Some, None, Result, Ok, Err, ⊤, if◌then◌else◌}
use Rattle.std.specs.List.{fold}
use Rattle.perm_map.specs.declared.map_fault.MapFault.{MapFault}
use Rattle.perm_map.specs.declared.map_fault.MapError.{MapError}
use Rattle.perm_map.specs.declared.map_fault.MapError.TheVariants.{Fault, Memory}
use Rattle.perm_map.specs.declared.map_fault.MapCause.{MapCause}
use Rattle.text_rows.specs.TextLines.{Rest, Row}
use Rattle.perm_map.specs.PermissionMap.{Entry, Reading, Weights, is_for, next_line, weights_of}

-- three fields, where a line has no others
pub record Three : Type 0 where
  pub first : List ℕ
  pub second : List ℕ
  pub third : List ℕ

abbrev pub three_of : List (List ℕ) → Option Three
three_of (first ∷ second ∷ third ∷ []) = Some (record { first = first; second = second; third = third })
three_of _ = None

-- what a call that takes one line answers: what the line says, as it is shown, or the line's fault
abbrev pub Takes : {A B : Type 0} → (List (List ℕ) → Result B MapCause) → (A → B) → Rest → Rest → Result A MapFault → Type 0
Takes says shown old new (Ok x) = (next_line says old.past old.rows ≡ Ok (shown x, new.rows)) × (new.past ≡ old.past)
Takes says shown old new (Err fault) = next_line says old.past old.rows ≡ Err fault

-- an entry replaces an earlier one for the same class and permission
abbrev pub with_entry : Weights → Entry → Weights
with_entry weights entry class permission = if is_for class permission entry then Some (entry.direction, entry.weight) else weights class permission

abbrev pub with_entries : Weights → List Entry → Weights
with_entries weights entries = fold with_entry weights entries

-- a reader of entries has taken lines, and the weights of a map have gained its entries
abbrev pub ReadsAll : (List Row → Reading (List Entry)) → Rest → Rest → List Entry → List Entry → Type 0
ReadsAll read old new before after = (entries : List Entry) × (read old.rows ≡ Ok (entries, new.rows)) × (new.past ≡ old.past) × (weights_of after ≡ with_entries (weights_of before) entries)

-- or answers its fault; after out of memory nothing is known
abbrev pub Reads : {T : Type 0} → (List Row → Reading (List Entry)) → Rest → Rest → List Entry → List Entry → Result T MapError → Type 0
Reads read old new before after (Ok done) = ReadsAll read old new before after
Reads read old new before after (Err (Fault fault)) = read old.rows ≡ Err fault
Reads read old new before after (Err Memory) = ⊤
