-- The lines of differences (this project's own).
use Rattle.std.specs.Prelude.{ℕ, Bool, true, false, Option, Some, None, List, [], ◌∷◌, ◌++◌, codes, length, slice_get, if◌then◌else◌}
use Rattle.std.specs.List.{flat_map, range_with_len}
use Rattle.keyed_lists.specs.Differences.{Both, differences}
use Rattle.diff_entries.specs.declared.parts.Label.{Label}
use Rattle.diff_entries.specs.declared.parts.Label.TheVariants.{Unnamed, Alias, Attributes, Types, Roles, Level, Range, Context, Packet}
use Rattle.diff_entries.specs.declared.parts.Part.{Part}
use Rattle.diff_entries.specs.declared.parts.PartValue.{PartValue}
use Rattle.diff_entries.specs.declared.parts.PartValue.TheVariants.{Names, Form}
use Rattle.diff_entries.specs.Parts.{same_part}
use Rattle.diff_entries.specs.Entries.{Entry, name_cmp}

-- ---- what a part has become

-- what stands before the change of a part: what the part is, where that is said
abbrev pub label_text : Label → List ℕ
label_text Unnamed = []
label_text Alias = codes " alias"
label_text Attributes = codes " attributes"
label_text Types = codes " types"
label_text Roles = codes " roles"
label_text Level = codes " level"
label_text Range = codes " range"
label_text Context = codes " context"
label_text Packet = codes " packet"

-- a name that the second set has alone, or the first
abbrev pub signed_name : Option (List ℕ) → Option (List ℕ) → List ℕ
signed_name None (Some name) = codes " +" ++ name
signed_name (Some name) None = codes " -" ++ name
signed_name first second = []

abbrev pub signed_both : Both (List ℕ) → List ℕ
signed_both both = signed_name both.first both.second

-- the names that one of two sets has alone, rising, each with its sign
unfoldable pub names_alone : List (List ℕ) → List (List ℕ) → List ℕ
names_alone first second = flat_map signed_both (differences name_cmp (λ name. name) (λ a b. true) first second)

abbrev pub set_change : List (List ℕ) → List (List ℕ) → List ℕ
set_change first second = codes "{" ++ names_alone first second ++ codes " }"

-- a text in place of another
abbrev pub text_change : List ℕ → List ℕ → List ℕ
text_change first second = codes "+[" ++ second ++ codes "] -[" ++ first ++ codes "]"

abbrev pub value_change : PartValue → PartValue → List ℕ
value_change (Names first) (Names second) = set_change first second
value_change (Form a first) (Form b second) = text_change first second
value_change first second = []

-- what a part has become, where that is not the same
abbrev pub part_change : Part → Part → List ℕ
part_change first second = if same_part first second then [] else label_text first.label ++ codes " " ++ value_change first.value second.value

abbrev pub change_of : Option Part → Option Part → List ℕ
change_of (Some first) (Some second) = part_change first second
change_of first second = []

-- what the parts of a number of two entries have become
unfoldable pub change_at : List Part → List Part → ℕ → List ℕ
change_at first second i = change_of (slice_get first i) (slice_get second i)

-- what all parts of two entries have become, one by one
abbrev pub changes_text : List Part → List Part → List ℕ
changes_text first second = flat_map (change_at first second) (range_with_len 0 (length first))

-- ---- the lines

-- of an entry that both have, where its parts are not the same
abbrev pub modified_line : Entry → Entry → List ℕ
modified_line a b = codes "* " ++ a.head ++ changes_text a.parts b.parts ++ codes ";"

abbrev pub line_with : Option Entry → Option Entry → List ℕ
line_with None None = []
line_with None (Some e) = codes "+ " ++ e.statement
line_with (Some e) None = codes "- " ++ e.statement
line_with (Some a) (Some b) = modified_line a b

-- the line of a difference: + STATEMENT, - STATEMENT or * HEAD CHANGES;
abbrev pub difference_line : Both Entry → List ℕ
difference_line both = line_with both.first both.second
