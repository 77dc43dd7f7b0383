-- Marks for the values of a set. It serves the code alone.
use Rattle.std.specs.Prelude.{◌≡◌, ℕ, Option, Some, None, List, ⊤}
use Rattle.pol_bitmap.specs.declared.Node.{Node}
use Rattle.pol_bitmap.specs.Nodes.{has_bit}
use Rattle.value_groups.specs.Among.{is_among}
use Rattle.value_groups.specs.Inner.Marking.{MarkedValues}

-- Where a set has marks, each value has one exactly where the set has the value.
abbrev pub AreMarksOf : List Node → Option MarkedValues → Type 0
AreMarksOf set None = ⊤
AreMarksOf set (Some marks) = (value : ℕ) → is_among marks.values value ≡ has_bit set value

-- where a set is not there, there are no marks either
abbrev pub AreMarksOfSome : Option (List Node) → Option MarkedValues → Type 0
AreMarksOfSome None None = ⊤
AreMarksOfSome None (Some marks) = ⊥
AreMarksOfSome (Some set) marks = AreMarksOf set marks
