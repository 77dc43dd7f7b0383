-- Record 6: a class of objects, with the permissions on them and the constraints on these (libsepol's class_read).
use Rattle.std.specs.Prelude.{ℕ, ◌+◌, ◌^◌, ◌<◌, ◌≤◌, ◌==◌, ◌||◌, nat_le, is_some, Option, Some, true, false, List, ◌++◌, length, take, drop}
use Rattle.pol_fields.specs.declared.limits.TheConstants.{MAX_POLICY_BYTES}
use Rattle.std.specs.List.{flat_map, AllByRecursion}
use Rattle.pol_fields.specs.declared.fault.Cause.{Cause}
use Rattle.pol_fields.specs.declared.fault.Cause.TheVariants.{UnknownCommon, BadDefault}
use Rattle.pol_fields.specs.declared.field.Field.{Field}
use Rattle.pol_fields.specs.declared.fields.TheConstants.{CLASS_LEN, CLASS_LEN2, CLASS_VALUE, CLASS_NPRIM, CLASS_NEL, CLASS_NCONS, CLASS_NAME, CLASS_COMMON, CLASS_NVALID, CLASS_DEFAULT_USER, CLASS_DEFAULT_ROLE, CLASS_DEFAULT_RANGE, CLASS_DEFAULT_TYPE}
use Rattle.pol_cursor.specs.Outcome.{Reader, ◌>>=◌, done}
use Rattle.pol_cursor.specs.Parts.{num, number, number_if, string_if, unless, counted, spell_counted, CountedFits}
use Rattle.pol_cursor.specs.Spelling.{bytes_of}
use Rattle.pol_symtab.specs.Claims.{Claims, with_claim}
use Rattle.pol_symtab.specs.SymbolFields.{new_value_test, symbol_length_at, symbol_name_at}
use Rattle.pol_symtab.specs.SymbolTables.{Table}
use Rattle.pol_commons.specs.declared.common_rec.CommonRec.{CommonRec}
use Rattle.pol_commons.specs.PermissionRecord.{spell_permission, PermissionFits}
use Rattle.pol_commons.specs.Permissions.{permissions_at, permissions_in, permissions_end, HavePermissions}
use Rattle.pol_commons.specs.CommonRecord.{permission_count_test}
use Rattle.pol_commons.specs.CommonTable.{common_named, inherited_from}
use Rattle.pol_constraints.specs.ConstraintRecord.{spell_constraint, ConstraintFits}
use Rattle.pol_classes.specs.declared.class_rec.ClassRec.{ClassRec}
use Rattle.pol_classes.specs.ConstraintLists.{constraints_at, constraints_in, constraints_end, HaveConstraints}

-- ---- the conditions of its fields

-- a class inherits from a common, or names none
abbrev pub common_test : Table CommonRec → List ℕ → Option Cause
common_test commons name = unless (length name == 0 || is_some (common_named commons name)) UnknownCommon

-- a default is 0 for none, or one of those known: 1 and 2 are the source and the target (libsepol's DEFAULT_SOURCE, DEFAULT_TARGET),
-- and those of a range are 1 to 7 (libsepol's DEFAULT_SOURCE_LOW to DEFAULT_GLBLUB)
abbrev pub default_test : ℕ → ℕ → Option Cause
default_test most default = unless (nat_le default most) BadDefault

-- ---- its head: the numbers and names before the lists

pub record Head : Type 0 where
  pub name : List ℕ
  -- it is empty where there is none
  pub common : List ℕ
  pub value : ℕ
  pub nprim : ℕ
  -- how many permissions of its own, and how many constraints
  pub nel : ℕ
  pub ncons : ℕ

-- the name of a common, or no byte
unfoldable pub common_name_at : Table CommonRec → ℕ → Reader (List ℕ)
common_name_at commons len = string_if CLASS_COMMON len (common_test commons)

unfoldable pub head_at : Claims → ℕ → Table CommonRec → Reader Head
head_at taken nprim commons = do
  len ← symbol_length_at CLASS_LEN
  common_len ← number CLASS_LEN2 4
  value ← number_if CLASS_VALUE 4 (new_value_test nprim taken)
  own_nprim ← number_if CLASS_NPRIM 4 permission_count_test
  nel ← number CLASS_NEL 4
  ncons ← number CLASS_NCONS 4
  name ← symbol_name_at CLASS_NAME taken len
  common ← common_name_at commons common_len
  done (record { name = name; common = common; value = value; nprim = own_nprim; nel = nel; ncons = ncons })

-- its numbers, the first of which are the lengths of its names
abbrev pub spell_numbers : Head → List ℕ
spell_numbers head =
    bytes_of 4 (length head.name) ++ bytes_of 4 (length head.common) ++ bytes_of 4 head.value ++ bytes_of 4 head.nprim ++ bytes_of 4 head.nel
    ++ bytes_of 4 head.ncons

abbrev pub spell_head : Head → List ℕ
spell_head head = spell_numbers head ++ head.name ++ head.common

-- ---- reading and spelling

unfoldable pub default_at : Field → ℕ → Reader ℕ
default_at field most = number_if field 4 (default_test most)

-- A third context is allowed in the second list of constraints: those on a change of context (validatetrans of the policy language).
unfoldable pub class_at : ℕ → Claims → ℕ → Table CommonRec → Reader ClassRec
class_at version taken nprim commons = do
  head ← head_at taken nprim commons
  permissions ← permissions_at (inherited_from commons head.common) head.nel
  constraints ← constraints_at version false head.ncons
  validatetrans ← counted CLASS_NVALID (constraints_at version true)
  default_user ← default_at CLASS_DEFAULT_USER 2
  default_role ← default_at CLASS_DEFAULT_ROLE 2
  default_range ← default_at CLASS_DEFAULT_RANGE 7
  default_type ← default_at CLASS_DEFAULT_TYPE 2
  done (record {
    name = head.name;
    common = head.common;
    value = head.value;
    nprim = head.nprim;
    permissions = permissions;
    constraints = constraints;
    validatetrans = validatetrans;
    default_user = default_user;
    default_role = default_role;
    default_range = default_range;
    default_type = default_type;
  })

-- the head of a class
abbrev pub head_of : ClassRec → Head
head_of class = record {
  name = class.name;
  common = class.common;
  value = class.value;
  nprim = class.nprim;
  nel = length class.permissions;
  ncons = length class.constraints;
}

abbrev pub spell_defaults : ClassRec → List ℕ
spell_defaults class = bytes_of 4 class.default_user ++ bytes_of 4 class.default_role ++ bytes_of 4 class.default_range ++ bytes_of 4 class.default_type

abbrev pub spell_class : ClassRec → List ℕ
spell_class class =
    spell_head (head_of class) ++ flat_map spell_permission class.permissions ++ flat_map spell_constraint class.constraints
    ++ spell_counted spell_constraint class.validatetrans ++ spell_defaults class

-- the numbers of a head fit their fields
pub record HeadFits (head : Head) : Type 0 where
  pub len : length head.name < 2 ^ 32
  pub common_len : length head.common < 2 ^ 32
  pub value : head.value < 2 ^ 32
  pub nprim : head.nprim < 2 ^ 32
  pub nel : head.nel < 2 ^ 32
  pub ncons : head.ncons < 2 ^ 32

-- the numbers of a class fit their fields
pub record ClassFits (version : ℕ) (class : ClassRec) : Type 0 where
  pub head : HeadFits (head_of class)
  pub permissions : AllByRecursion PermissionFits class.permissions
  pub constraints : AllByRecursion (ConstraintFits version) class.constraints
  pub validatetrans : CountedFits (ConstraintFits version) class.validatetrans
  pub default_user : class.default_user < 2 ^ 32
  pub default_role : class.default_role < 2 ^ 32
  pub default_range : class.default_range < 2 ^ 32
  pub default_type : class.default_type < 2 ^ 32

-- what the records before have taken, and a class
abbrev pub with_class : Claims → ClassRec → Claims
with_class taken class = with_claim taken class.name (Some class.value)

-- ---- the class that stands at a place

abbrev pub head_in : List ℕ → ℕ → Head
head_in bytes place = record {
  name = take (num bytes place 4) (drop (place + 24) bytes);
  common = take (num bytes (place + 4) 4) (drop (place + 24 + num bytes place 4) bytes);
  value = num bytes (place + 8) 4;
  nprim = num bytes (place + 12) 4;
  nel = num bytes (place + 16) 4;
  ncons = num bytes (place + 20) 4;
}

-- the place behind its head, where its permissions stand
abbrev pub head_end : List ℕ → ℕ → ℕ
head_end bytes place = place + 24 + num bytes place 4 + num bytes (place + 4) 4

-- where its constraints stand
unfoldable pub constraints_place : List ℕ → ℕ → ℕ
constraints_place bytes place = permissions_end bytes (head_end bytes place) (num bytes (place + 16) 4)

-- where the number of the constraints on a change of context stands, before these
unfoldable pub validatetrans_place : ℕ → List ℕ → ℕ → ℕ
validatetrans_place version bytes place = constraints_end version bytes (constraints_place bytes place) (num bytes (place + 20) 4)

-- where its defaults stand
unfoldable pub defaults_place : ℕ → List ℕ → ℕ → ℕ
defaults_place version bytes place =
    constraints_end version bytes (validatetrans_place version bytes place + 4) (num bytes (validatetrans_place version bytes place) 4)

abbrev pub class_in : ℕ → List ℕ → ℕ → ClassRec
class_in version bytes place = record {
  name = (head_in bytes place).name;
  common = (head_in bytes place).common;
  value = (head_in bytes place).value;
  nprim = (head_in bytes place).nprim;
  permissions = permissions_in bytes (head_end bytes place) (num bytes (place + 16) 4);
  constraints = constraints_in version bytes (constraints_place bytes place) (num bytes (place + 20) 4);
  validatetrans = constraints_in version bytes (validatetrans_place version bytes place + 4) (num bytes (validatetrans_place version bytes place) 4);
  default_user = num bytes (defaults_place version bytes place) 4;
  default_role = num bytes (defaults_place version bytes place + 4) 4;
  default_range = num bytes (defaults_place version bytes place + 8) 4;
  default_type = num bytes (defaults_place version bytes place + 12) 4;
}

-- a head stands there, in a buffer of a policy's size
abbrev pub HasHead : List ℕ → ℕ → Type 0
HasHead bytes place = (head_end bytes place ≤ length bytes) × (length bytes ≤ MAX_POLICY_BYTES)

-- a class stands there, in a buffer of a policy's size
pub record HasClass (version : ℕ) (bytes : List ℕ) (place : ℕ) : Type 0 where
  pub head : HasHead bytes place
  pub permissions : HavePermissions bytes (head_end bytes place) (num bytes (place + 16) 4)
  pub constraints : HaveConstraints version bytes (constraints_place bytes place) (num bytes (place + 20) 4)
  pub count : validatetrans_place version bytes place + 4 ≤ length bytes
  pub validatetrans : HaveConstraints version bytes (validatetrans_place version bytes place + 4) (num bytes (validatetrans_place version bytes place) 4)
  pub defaults : defaults_place version bytes place + 16 ≤ length bytes
