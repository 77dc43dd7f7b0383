-- What one slot of files in memory stands for.
use Rattle.std.specs.Prelude.{◌≡◌, ◌<◌, ℕ, Bool, true, false, List, [], ◌∷◌, drop, length, None, Some, if◌then◌else◌, string_bytes, bytes_eq, option_map, slice_get, MatchOption, Option}
use Rattle.std.specs.Option.{ForSome}
use Rattle.se_outside.specs.declared.mem_slot.MemFile.{MemFile}
use Rattle.se_outside.specs.declared.mem_slot.MemSlot.{MemSlot}
use Rattle.se_outside.specs.declared.mem_slot.Place.{Place}
use Rattle.se_outside.specs.declared.mem_slot.Place.TheVariants.{Unasked, NotThere, Refused, Open}
use Rattle.se_outside.specs.Outside.{SlotState, Asked, Untold, Named, Missing}

-- the first where there is one, else the second
abbrev pub or_else : Option (List ℕ) → Option (List ℕ) → Option (List ℕ)
or_else (Some x) y = Some x
or_else None y = y

-- what the last file of that name holds
abbrev pub held : List MemFile → List ℕ → Option (List ℕ)
held [] name = None
held (f ∷ fs) name = or_else (held fs name) (if bytes_eq (string_bytes f.name) name then Some f.bytes.items else None)

-- the index is that of the last file of that name
abbrev pub IsFound : List MemFile → List ℕ → Option ℕ → Type 0
IsFound fs name index = MatchOption index (held fs name ≡ None)
    (λ p. (f : MemFile) × (slice_get fs p ≡ Some f) × (string_bytes f.name ≡ name) × (held fs name ≡ Some f.bytes.items))

-- where the slot's file stands among the files
abbrev pub file_index : Place → Option ℕ
file_index Unasked = None
file_index NotThere = None
file_index (Refused p) = Some p
file_index (Open p at) = Some p

-- the slot's file, if any, is one of the files
abbrev pub IsPlaced : List MemFile → MemSlot → Type 0
IsPlaced files s = ForSome (file_index s.place) (λ p. p < length files)

abbrev pub is_asked : Place → Bool
is_asked Unasked = false
is_asked NotThere = true
is_asked (Refused p) = true
is_asked (Open p at) = true

abbrev pub is_open : Place → Bool
is_open Unasked = false
is_open NotThere = false
is_open (Refused p) = false
is_open (Open p at) = true

-- the name of a file, for a place past the files none
abbrev pub name_of : Option MemFile → Asked
name_of None = Untold
name_of (Some f) = Named (string_bytes f.name)

abbrev pub asked_name : List MemFile → Place → Asked
asked_name files Unasked = Untold
asked_name files NotThere = Missing
asked_name files (Refused p) = name_of (slice_get files p)
asked_name files (Open p at) = name_of (slice_get files p)

-- what an open slot has left
abbrev pub left_of : List MemFile → Place → Option (List ℕ)
left_of files Unasked = None
left_of files NotThere = None
left_of files (Refused p) = None
left_of files (Open p at) = option_map (λ f. drop at f.bytes.items) (slice_get files p)

abbrev pub slot_state : List MemFile → MemSlot → SlotState
slot_state files s = record {
  asked = is_asked s.place;
  is_open = is_open s.place;
  name = asked_name files s.place;
  left = left_of files s.place;
  faults = s.faults;
  turns = s.turns;
}
