-- Lists of places that stand one behind the other in one vector.
use Rattle.std.specs.Prelude.{ℕ, ◌+◌, ◌≤◌, List, length, map, take, drop}
use Rattle.std.specs.List.{AllByRecursion}
use Rattle.pol_cursor.specs.References.{Placed}
use Rattle.pol_conditionals.specs.declared.place_groups.Span.{Span}

-- the numbers of a span
abbrev pub numbers_in : List ℕ → Span → List ℕ
numbers_in numbers span = take span.len (drop span.first numbers)

abbrev pub IsWithin : List ℕ → Span → Type 0
IsWithin numbers span = span.first + span.len ≤ length numbers

abbrev pub groups_of : List ℕ → List Span → List (List ℕ)
groups_of numbers spans = map (numbers_in numbers) spans

abbrev pub AreWithin : List ℕ → List Span → Type 0
AreWithin numbers spans = AllByRecursion (IsWithin numbers) spans

-- the places of records
abbrev pub places_of : {A : Type 0} → List (Placed A) → List ℕ
places_of records = map (λ r. r.place) records
