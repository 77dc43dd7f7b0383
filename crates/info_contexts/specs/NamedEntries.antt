-- The entries of a listing that a name asks for. The name is only compared, so no name is unknown (this project's profile).
use Rattle.std.specs.Prelude.{ℕ, Bool, true, Option, Some, None, List, [], length, get_or}
use Rattle.std.specs.List.{filter, range_with_len}
use Rattle.std.specs.Str.{bytes_eq}

-- an entry of a name is asked for where the name is the given one, byte by byte, or where none is given
abbrev pub is_asked : Option (List ℕ) → List ℕ → Bool
is_asked None other = true
is_asked (Some name) other = bytes_eq other name

-- the entries that a name asks for, in the order of the list
abbrev pub of_name : {A : Type 0} → (A → List ℕ) → Option (List ℕ) → List A → List A
of_name name_of name entries = filter (λ entry. is_asked name (name_of entry)) entries

-- their numbers from 0 on, by the names of all entries
unfoldable pub numbers_of_name : Option (List ℕ) → List (List ℕ) → List ℕ
numbers_of_name name names = filter (λ number. is_asked name (get_or names number [])) (range_with_len 0 (length names))
