-- The symbols of a policy that is made: the bits of its bitmaps stand for the values above them, 0 for 1.
use Rattle.std.specs.Prelude.{ℕ, ◌+◌, ◌/◌, Some, None, List, [], ◌∷◌, ◌++◌, codes, decimal, map}
use Rattle.std.specs.List.{range_with_len}
use Rattle.pol_bitmap.specs.declared.Node.{Node}
use Rattle.pol_mls.specs.declared.LevelRec.{LevelRec}
use Rattle.pol_mls.specs.declared.RangeRec.{RangeRec}
use Rattle.pol_commons.specs.declared.PermissionRec.{PermissionRec}
use Rattle.pol_commons.specs.declared.CommonRec.{CommonRec}
use Rattle.pol_constraints.specs.declared.ConstraintItem.{ConstraintItem}
use Rattle.pol_constraints.specs.declared.ConstraintRec.{ConstraintRec}
use Rattle.pol_classes.specs.declared.ClassRec.{ClassRec}
use Rattle.pol_datums.specs.declared.RoleRec.{RoleRec}
use Rattle.pol_datums.specs.declared.TypeRec.{TypeRec}
use Rattle.pol_datums.specs.declared.BooleanRec.{BooleanRec}
use Rattle.pol_datums.specs.declared.SensitivityRec.{SensitivityRec}
use Rattle.pol_datums.specs.declared.CategoryRec.{CategoryRec}
use Rattle.pol_symbols.specs.declared.UserRec.{UserRec}
use Rattle.set_nodes.specs.SetNodes.{set_of, first_bits}

-- how many attributes there are beside n types: each has twenty of them
abbrev pub attribute_count : ℕ → ℕ
attribute_count n = n / 20

-- ---- the common and the classes

abbrev pub permission : List ℕ → ℕ → PermissionRec
permission name value = record { name = name; value = value }

-- the permissions that the classes of files have in common
unfoldable pub file_permissions : List PermissionRec
file_permissions =
    permission (codes "ioctl") 1
    ∷ permission (codes "read") 2
    ∷ permission (codes "write") 3
    ∷ permission (codes "getattr") 4
    ∷ permission (codes "append") 5
    ∷ permission (codes "execute") 6
    ∷ []

unfoldable pub made_commons : List CommonRec
made_commons = record { name = codes "file"; value = 1; nprim = 6; permissions = file_permissions } ∷ []

-- a class with permissions of its own, and without defaults
abbrev pub class : List ℕ → List ℕ → ℕ → ℕ → List PermissionRec → List ConstraintRec → ClassRec
class name common value nprim permissions constraints = record {
  name = name;
  common = common;
  value = value;
  nprim = nprim;
  permissions = permissions;
  constraints = constraints;
  validatetrans = [];
  default_user = 0;
  default_role = 0;
  default_range = 0;
  default_type = 0;
}

-- a class of files with one permission beside those that they have in common
abbrev pub file_class : List ℕ → ℕ → List ℕ → ClassRec
file_class name value own = class name (codes "file") value 7 (permission own 7 ∷ []) []

unfoldable pub process_permissions : List PermissionRec
process_permissions =
    permission (codes "transition") 1
    ∷ permission (codes "setexec") 2
    ∷ permission (codes "dyntransition") 3
    ∷ permission (codes "setcurrent") 4
    ∷ permission (codes "signal") 5
    ∷ []

-- u1 == u2
abbrev pub same_user : ConstraintItem
same_user = record { kind = 4; attr = 1; op = 1; names = None; type_set = None }

-- A transition leaves the user as it is.
unfoldable pub process_constraints : List ConstraintRec
process_constraints = record { permissions = 1; items = same_user ∷ [] } ∷ []

-- the class of processes, which inherits none
abbrev pub process_class : ClassRec
process_class = class (codes "process") [] 3 5 process_permissions process_constraints

unfoldable pub made_classes : List ClassRec
made_classes = file_class (codes "file") 1 (codes "entrypoint") ∷ file_class (codes "dir") 2 (codes "search") ∷ process_class ∷ []

-- ---- roles and types

-- a role without bounds, which dominates these roles and has these types
abbrev pub role : List ℕ → ℕ → List Node → List Node → RoleRec
role name value dominates types = record { value = value; bounds = 0; name = name; dominates = dominates; types = types }

-- Each dominates itself alone. The second has all types.
unfoldable pub made_roles : ℕ → List RoleRec
made_roles n = role (codes "object_r") 1 (set_of (0 ∷ [])) (set_of []) ∷ role (codes "system_r") 2 (set_of (1 ∷ [])) (first_bits n) ∷ []

abbrev pub type_name : ℕ → List ℕ
type_name number = codes "t" ++ decimal number ++ codes "_t"

abbrev pub attribute_name : ℕ → List ℕ
attribute_name number = codes "a" ++ decimal number

-- the type of that number, from 1 on, which is its value
unfoldable pub made_type : ℕ → TypeRec
made_type number = record { value = number; properties = 1; bounds = 0; name = type_name number }

-- the attribute of that number, from 1 on, beside n types. Its value is behind theirs.
unfoldable pub made_attribute : ℕ → ℕ → TypeRec
made_attribute n number = record { value = n + number; properties = 3; bounds = 0; name = attribute_name number }

-- n types and their attributes
unfoldable pub made_types : ℕ → List TypeRec
made_types n = map made_type (range_with_len 1 n) ++ map (made_attribute n) (range_with_len 1 (attribute_count n))

-- ---- users, booleans and levels

-- all categories
abbrev pub all_categories : List Node
all_categories = first_bits 1024

-- the level without categories
abbrev pub bare_level : LevelRec
bare_level = record { sens = 1; categories = set_of [] }

-- the range from it up to the level of all categories
abbrev pub whole_range : RangeRec
whole_range = record { n = 2; low = 1; low_categories = set_of []; high = Some (record { sens = 1; categories = all_categories }) }

-- the range of that level alone
abbrev pub bare_range : RangeRec
bare_range = record { n = 1; low = 1; low_categories = set_of []; high = None }

unfoldable pub made_users : List UserRec
made_users = record { value = 1; bounds = 0; name = codes "system_u"; roles = set_of (1 ∷ []); range = whole_range; level = bare_level } ∷ []

abbrev pub boolean : List ℕ → ℕ → ℕ → BooleanRec
boolean name value state = record { value = value; state = state; name = name }

unfoldable pub made_booleans : List BooleanRec
made_booleans = boolean (codes "b1") 1 0 ∷ boolean (codes "b2") 2 1 ∷ []

unfoldable pub made_levels : List SensitivityRec
made_levels = record { isalias = 0; name = codes "s0"; sens = 1; categories = all_categories } ∷ []

abbrev pub category_name : ℕ → List ℕ
category_name number = codes "c" ++ decimal number

-- the category of that number, from 0 on
unfoldable pub made_category : ℕ → CategoryRec
made_category number = record { value = number + 1; isalias = 0; name = category_name number }

-- so many of them
unfoldable pub categories_of : ℕ → List CategoryRec
categories_of count = map made_category (range_with_len 0 count)

abbrev pub made_categories : List CategoryRec
made_categories = categories_of 1024

-- ---- the greatest values

unfoldable pub made_nprims : ℕ → List ℕ
made_nprims n = 1 ∷ 3 ∷ 2 ∷ (n + attribute_count n) ∷ 1 ∷ 2 ∷ 1 ∷ 1024 ∷ []
