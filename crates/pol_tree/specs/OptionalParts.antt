-- Parts of a policy that stand in its file or not, by a number that stands before them. libsepol writes them by the conditions by which
-- it reads them. Here a record has such a part or has it not, so that it can be wrong; it is wrong at a field (this project's profile).
use Rattle.std.specs.Prelude.{Bool, true, false, not, Option, Some, None, is_some, is_none, List, [], ◌∷◌, map, if◌then◌else◌}
use Rattle.pol_fields.specs.declared.Field.{Field}

-- ---- one part

-- a field, where it is wrong
abbrev pub wrong_if : Bool → Field → Option Field
wrong_if true field = Some field
wrong_if false field = None

-- a part is wrong where it is not there and has to be, and where it is there and must not be
abbrev pub shape_of_part : {A : Type 0} → Bool → Option A → Field → Option Field
shape_of_part there part field = wrong_if (if there then is_none part else is_some part) field

-- a list that is not in the file has to be empty
abbrev pub shape_of_list : {A : Type 0} → Bool → List A → Field → Option Field
shape_of_list there [] field = None
shape_of_list there (x ∷ xs) field = wrong_if (not there) field

-- ---- parts one behind the other

-- the first of them that is wrong
unfoldable pub first_of : List (Option Field) → Option Field
first_of [] = None
first_of (None ∷ parts) = first_of parts
first_of (Some field ∷ parts) = Some field

-- the first one of the records of a list, by that of a record
abbrev pub first_in : {A : Type 0} → (A → Option Field) → List A → Option Field
first_in shape records = first_of (map shape records)
