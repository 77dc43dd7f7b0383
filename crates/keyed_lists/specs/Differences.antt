-- The differences from one list of entries to another, by their keys: what both have of a key, in the order of the keys, where that
-- is not the same. An entry counts where it is the first of its list that has its key.
use Rattle.std.specs.Prelude.{◌≡◌, ℕ, Bool, true, false, not, Option, Some, None, List, ⊤, map, ◌||◌}
use Rattle.std.specs.List.{filter, find}
use Rattle.std.specs.Ordering.{is_eq}
use Rattle.std.specs.declared.cmp.Ordering.{Ordering}
use Rattle.keyed_lists.specs.KeyOrder.{keys_of_both}

-- what each of two lists has of one key
pub record Both (E : Type 0) : Type 0 where
  pub first : Option E
  pub second : Option E

-- the first entry of a list that has a key
abbrev pub entry_with : {E K : Type 0} → (K → K → Ordering) → (E → K) → List E → K → Option E
entry_with cmp key_of entries key = find (λ e. is_eq (cmp (key_of e) key)) entries

abbrev pub both_with : {E K : Type 0} → (K → K → Ordering) → (E → K) → List E → List E → K → Both E
both_with cmp key_of first second key = record { first = entry_with cmp key_of first key; second = entry_with cmp key_of second key }

-- two entries of one key are not the same: one is there alone, or a test tells them apart
abbrev pub differ : {E : Type 0} → (E → E → Bool) → Option E → Option E → Bool
differ same None None = false
differ same None (Some b) = true
differ same (Some a) None = true
differ same (Some a) (Some b) = not (same a b)

abbrev pub is_difference : {E : Type 0} → (E → E → Bool) → Both E → Bool
is_difference same both = differ same both.first both.second

-- Each key of either list, rising, with what both have of it, where that differs: it is added where the second has it alone, removed
-- where the first has it alone, and modified where both have it.
unfoldable pub differences : {E K : Type 0} → (K → K → Ordering) → (E → K) → (E → E → Bool) → List E → List E → List (Both E)
differences cmp key_of same first second =
    filter (is_difference same) (map (both_with cmp key_of first second) (keys_of_both cmp (map key_of first) (map key_of second)))

-- ---- what is said of them

-- the lists turned round
abbrev pub turned : {E : Type 0} → Both E → Both E
turned both = record { first = both.second; second = both.first }

-- an entry is there and has a key
abbrev pub has_key : {E K : Type 0} → (K → K → Ordering) → (E → K) → K → Option E → Bool
has_key cmp key_of key None = false
has_key cmp key_of key (Some e) = is_eq (cmp (key_of e) key)

-- a difference speaks of a key
abbrev pub is_of_key : {E K : Type 0} → (K → K → Ordering) → (E → K) → K → Both E → Bool
is_of_key cmp key_of key both = has_key cmp key_of key both.first || has_key cmp key_of key both.second

-- what is there of a key after a difference, if there is one: what it says, and otherwise what was there
abbrev pub outcome : {E : Type 0} → Option E → Option (Both E) → Option E
outcome old None = old
outcome old (Some both) = both.second

-- what is there of a key after differences
abbrev pub entry_after : {E K : Type 0} → (K → K → Ordering) → (E → K) → List (Both E) → List E → K → Option E
entry_after cmp key_of differences entries key = outcome (entry_with cmp key_of entries key) (find (is_of_key cmp key_of key) differences)

-- both are there and the same by a test, or none is
abbrev pub AreAlike : {E : Type 0} → (E → E → Bool) → Option E → Option E → Type 0
AreAlike same a b = differ same a b ≡ false
