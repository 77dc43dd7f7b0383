-- Record 4: a permission of a class or of a common (libsepol's perm_read).
use Rattle.std.specs.Prelude.{ℕ, ◌+◌, ◌^◌, ◌<◌, ◌≤◌, List, ◌++◌, length, map, take, drop}
use Rattle.pol_fields.specs.declared.limits.TheConstants.{MAX_POLICY_BYTES}
use Rattle.pol_fields.specs.declared.fields.TheConstants.{PERMISSION_LEN, PERMISSION_VALUE, PERMISSION_NAME}
use Rattle.pol_cursor.specs.Outcome.{Reader, ◌>>=◌, done}
use Rattle.pol_cursor.specs.Parts.{num, number_if}
use Rattle.pol_cursor.specs.Spelling.{bytes_of}
use Rattle.pol_symtab.specs.Claims.{Claims}
use Rattle.pol_symtab.specs.SymbolFields.{new_value_test, symbol_length_at, symbol_name_at}
use Rattle.pol_commons.specs.declared.permission_rec.PermissionRec.{PermissionRec}

-- ---- what its name and its value may be

-- a class has a bit for each of its permissions in 32 (libsepol's PERM_SYMTAB_SIZE)
abbrev pub permission_limit : ℕ
permission_limit = 32

-- what permissions have taken
abbrev pub claims_of : List PermissionRec → Claims
claims_of permissions = record { names = map (λ p. p.name) permissions; values = map (λ p. p.value) permissions }

-- what is taken where a permission is read: by the permissions before it in its list, and by those that its class has from a
-- common (this project's profile; libsepol's perm_read refuses a name of its own list)
abbrev pub claims_before : List PermissionRec → List PermissionRec → Claims
claims_before listed inherited = claims_of (listed ++ inherited)

-- ---- reading and spelling

-- a value that is not taken
unfoldable pub permission_value_at : Claims → Reader ℕ
permission_value_at claims = number_if PERMISSION_VALUE 4 (new_value_test permission_limit claims)

unfoldable pub permission_at : List PermissionRec → List PermissionRec → Reader PermissionRec
permission_at listed inherited = do
  len ← symbol_length_at PERMISSION_LEN
  value ← permission_value_at (claims_before listed inherited)
  name ← symbol_name_at PERMISSION_NAME (claims_before listed inherited) len
  done (record { name = name; value = value })

abbrev pub spell_permission : PermissionRec → List ℕ
spell_permission permission = bytes_of 4 (length permission.name) ++ bytes_of 4 permission.value ++ permission.name

-- the numbers of a permission fit their fields
pub record PermissionFits (permission : PermissionRec) : Type 0 where
  pub len : length permission.name < 2 ^ 32
  pub value : permission.value < 2 ^ 32

-- ---- the permission that stands at a place

abbrev pub permission_in : List ℕ → ℕ → PermissionRec
permission_in bytes place = record { name = take (num bytes place 4) (drop (place + 8) bytes); value = num bytes (place + 4) 4 }

-- the place behind it
abbrev pub permission_end : List ℕ → ℕ → ℕ
permission_end bytes place = place + 8 + num bytes place 4

-- a permission stands there, in a buffer of a policy's size
abbrev pub HasPermission : List ℕ → ℕ → Type 0
HasPermission bytes place =
    (permission_end bytes place ≤ length bytes) × (length bytes ≤ MAX_POLICY_BYTES) × (1 ≤ num bytes (place + 4) 4) × (num bytes (place + 4) 4 ≤ permission_limit)
