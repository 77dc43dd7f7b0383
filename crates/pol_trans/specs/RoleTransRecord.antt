-- Record 20: a role transition, by which a process of a role that runs a file of a type changes to another role (libsepol's
-- role_trans_read). Its class is that of the new object.
use Rattle.std.specs.Prelude.{ℕ, ◌+◌, ◌^◌, ◌<◌, ◌≤◌, List, [], ◌∷◌, ◌++◌, length}
use Rattle.pol_fields.specs.declared.limits.TheConstants.{MAX_POLICY_BYTES}
use Rattle.pol_fields.specs.declared.table_kind.TableKind.TheVariants.{Roles, Types, Classes}
use Rattle.pol_fields.specs.declared.fields.TheConstants.{ROLETRANS_ROLE, ROLETRANS_TYPE, ROLETRANS_NEWROLE, ROLETRANS_CLASS}
use Rattle.pol_cursor.specs.Outcome.{Reader, ◌>>=◌, done}
use Rattle.pol_cursor.specs.Parts.{num, number}
use Rattle.pol_cursor.specs.References.{Placed, Reference}
use Rattle.pol_cursor.specs.Spelling.{bytes_of}
use Rattle.pol_trans.specs.declared.role_trans_rec.RoleTransRec.{RoleTransRec}

-- ---- reading and spelling

unfoldable pub role_trans_at : Reader RoleTransRec
role_trans_at = do
  role ← number ROLETRANS_ROLE 4
  type_value ← number ROLETRANS_TYPE 4
  newrole ← number ROLETRANS_NEWROLE 4
  class ← number ROLETRANS_CLASS 4
  done (record { role = role; type_value = type_value; newrole = newrole; class = class })

abbrev pub spell_role_trans : RoleTransRec → List ℕ
spell_role_trans trans = bytes_of 4 trans.role ++ bytes_of 4 trans.type_value ++ bytes_of 4 trans.newrole ++ bytes_of 4 trans.class

-- the numbers of a role transition fit their fields
pub record RoleTransFits (trans : RoleTransRec) : Type 0 where
  pub role : trans.role < 2 ^ 32
  pub type_value : trans.type_value < 2 ^ 32
  pub newrole : trans.newrole < 2 ^ 32
  pub class : trans.class < 2 ^ 32

-- ---- the role transition that stands at a place

abbrev pub role_trans_in : List ℕ → ℕ → RoleTransRec
role_trans_in bytes place = record {
  role = num bytes place 4;
  type_value = num bytes (place + 4) 4;
  newrole = num bytes (place + 8) 4;
  class = num bytes (place + 12) 4;
}

-- a role transition stands there, in a buffer of a policy's size
abbrev pub HasRoleTrans : List ℕ → ℕ → Type 0
HasRoleTrans bytes place = (place + 16 ≤ length bytes) × (length bytes ≤ MAX_POLICY_BYTES)

-- ---- what it names

abbrev pub role_trans_references : Placed RoleTransRec → List Reference
role_trans_references trans =
    record { place = trans.place; field = ROLETRANS_ROLE; table = Roles; value = trans.value.role } ∷
    record { place = trans.place + 4; field = ROLETRANS_TYPE; table = Types; value = trans.value.type_value } ∷
    record { place = trans.place + 8; field = ROLETRANS_NEWROLE; table = Roles; value = trans.value.newrole } ∷
    record { place = trans.place + 12; field = ROLETRANS_CLASS; table = Classes; value = trans.value.class } ∷
    []
