-- Places in lists of entries.
use Rattle.std.specs.Prelude.{ℕ, ◌<◌, Option, Some, None, List, ⊤, length}
use Rattle.keyed_lists.specs.declared.pairing.Places.{Places}

abbrev pub IsBelow : ℕ → Option ℕ → Type 0
IsBelow count None = ⊤
IsBelow count (Some place) = place < count

-- places are within both lists
abbrev pub AreWithin : {E : Type 0} → List E → List E → Places → Type 0
AreWithin first second places = IsBelow (length first) places.first × IsBelow (length second) places.second
