-- What two lists have at the places of a key.
use Rattle.std.specs.Prelude.{Bool, Option, List, map, slice_get}
use Rattle.std.specs.Option.{option_and_then}
use Rattle.std.specs.declared.cmp.Ordering.{Ordering}
use Rattle.keyed_lists.specs.declared.pairing.Places.{Places}
use Rattle.keyed_lists.specs.KeyOrder.{keys_of_both, places_of}
use Rattle.keyed_lists.specs.Differences.{Both, is_difference}

abbrev pub both_at : {E : Type 0} → List E → List E → Places → Both E
both_at first second places = record { first = option_and_then (slice_get first) places.first; second = option_and_then (slice_get second) places.second }

-- there the lists differ
abbrev pub differ_at : {E : Type 0} → (E → E → Bool) → List E → List E → Places → Bool
differ_at same first second places = is_difference same (both_at first second places)

-- the places of all keys of two lists of entries, in order
abbrev pub paired : {E K : Type 0} → (K → K → Ordering) → (E → K) → List E → List E → List Places
paired cmp key_of first second = map (places_of cmp (map key_of first) (map key_of second)) (keys_of_both cmp (map key_of first) (map key_of second))
