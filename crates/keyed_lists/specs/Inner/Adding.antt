-- Keys of one list after the other, from the last to the first, put into a map from keys to their places.
use Rattle.std.specs.Prelude.{◌≡◌, ℕ, ◌+◌, Option, Some, None, List, [], ◌∷◌, length, take, drop}
use Rattle.std.specs.Map.{lookup}
use Rattle.std.specs.BTreeMap.{insert_entry, is_at}
use Rattle.std.specs.declared.cmp.Ordering.{Ordering}
use Rattle.keyed_lists.specs.declared.pairing.Places.{Places}
use Rattle.keyed_lists.specs.declared.pairing.Side.{Side}
use Rattle.keyed_lists.specs.declared.pairing.Side.TheVariants.{First, Second}

-- what is known of the places of a key, where something is
abbrev pub known : Option Places → Places
known None = record { first = None; second = None }
known (Some places) = places

-- a key is found at a place of a list
abbrev pub put_at : Side → ℕ → Places → Places
put_at First place places = record { first = Some place; second = places.second }
put_at Second place places = record { first = places.first; second = Some place }

-- the entries of the map, with the key at that place
abbrev pub with_place : {K : Type 0} → (K → K → Ordering) → Side → ℕ → K → List (K × Places) → List (K × Places)
with_place cmp side place key entries = insert_entry cmp entries key (put_at side place (known (lookup (is_at (cmp key)) entries)))

-- and with the keys of a list that begins at that place, of which the last is put first
unfoldable pub added : {K : Type 0} → (K → K → Ordering) → Side → ℕ → List K → List (K × Places) → List (K × Places)
added cmp side place [] entries = entries
added cmp side place (key ∷ keys) entries = with_place cmp side place key (added cmp side (place + 1) keys entries)
