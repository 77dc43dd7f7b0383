-- Record 21: a role allow, by which a process may change from one role to another (libsepol's role_allow_read).
use Rattle.std.specs.Prelude.{ℕ, ◌+◌, ◌^◌, ◌<◌, ◌≤◌, List, [], ◌∷◌, ◌++◌, length}
use Rattle.pol_fields.specs.declared.limits.TheConstants.{MAX_POLICY_BYTES}
use Rattle.pol_fields.specs.declared.table_kind.TableKind.TheVariants.{Roles}
use Rattle.pol_fields.specs.declared.fields.TheConstants.{ROLEALLOW_ROLE, ROLEALLOW_NEWROLE}
use Rattle.pol_cursor.specs.Outcome.{Reader, ◌>>=◌, done}
use Rattle.pol_cursor.specs.Parts.{num, number}
use Rattle.pol_cursor.specs.References.{Placed, Reference}
use Rattle.pol_cursor.specs.Spelling.{bytes_of}
use Rattle.pol_trans.specs.declared.role_allow_rec.RoleAllowRec.{RoleAllowRec}

-- ---- reading and spelling

unfoldable pub role_allow_at : Reader RoleAllowRec
role_allow_at = do
  role ← number ROLEALLOW_ROLE 4
  newrole ← number ROLEALLOW_NEWROLE 4
  done (record { role = role; newrole = newrole })

abbrev pub spell_role_allow : RoleAllowRec → List ℕ
spell_role_allow allow = bytes_of 4 allow.role ++ bytes_of 4 allow.newrole

-- the numbers of a role allow fit their fields
pub record RoleAllowFits (allow : RoleAllowRec) : Type 0 where
  pub role : allow.role < 2 ^ 32
  pub newrole : allow.newrole < 2 ^ 32

-- ---- the role allow that stands at a place

abbrev pub role_allow_in : List ℕ → ℕ → RoleAllowRec
role_allow_in bytes place = record { role = num bytes place 4; newrole = num bytes (place + 4) 4 }

-- a role allow stands there, in a buffer of a policy's size
abbrev pub HasRoleAllow : List ℕ → ℕ → Type 0
HasRoleAllow bytes place = (place + 8 ≤ length bytes) × (length bytes ≤ MAX_POLICY_BYTES)

-- ---- what it names

abbrev pub role_allow_references : Placed RoleAllowRec → List Reference
role_allow_references allow =
    record { place = allow.place; field = ROLEALLOW_ROLE; table = Roles; value = allow.value.role } ∷
    record { place = allow.place + 4; field = ROLEALLOW_NEWROLE; table = Roles; value = allow.value.newrole } ∷
    []
