-- What an entry has besides its key: parts, which are compared.
use Rattle.std.specs.Prelude.{ℕ, ◌&&◌, ◌==◌, Bool, true, false, List, [], ◌∷◌}
use Rattle.std.specs.Cmp.Lexicographic.{pointwise}
use Rattle.diff_entries.specs.declared.parts.Part.{Part}
use Rattle.diff_entries.specs.declared.parts.PartValue.{PartValue}
use Rattle.diff_entries.specs.declared.parts.PartValue.TheVariants.{Names, Form}

-- two lists have equal names, in one order
abbrev pub same_names : List (List ℕ) → List (List ℕ) → Bool
same_names = pointwise (pointwise ◌==◌)

-- Two parts are the same where their sets of names are, or where their forms are, whatever the texts of the forms.
abbrev pub same_value : PartValue → PartValue → Bool
same_value (Names a) (Names b) = same_names a b
same_value (Form a text) (Form b other) = pointwise same_names a b
same_value a b = false

abbrev pub same_part : Part → Part → Bool
same_part a b = same_value a.value b.value

-- the parts of two entries are the same, one by one
abbrev pub same_parts : List Part → List Part → Bool
same_parts [] [] = true
same_parts (a ∷ parts) (b ∷ others) = same_part a b && same_parts parts others
same_parts parts others = false
