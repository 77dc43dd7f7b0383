-- Record 5: a common, which is permissions that classes inherit (libsepol's common_read).
use Rattle.std.specs.Prelude.{ℕ, ◌+◌, ◌^◌, ◌<◌, ◌≤◌, nat_le, Option, Some, List, [], ◌++◌, length, take, drop}
use Rattle.pol_fields.specs.declared.limits.TheConstants.{MAX_POLICY_BYTES}
use Rattle.std.specs.List.{flat_map, AllByRecursion}
use Rattle.pol_fields.specs.declared.fault.Cause.{Cause}
use Rattle.pol_fields.specs.declared.fault.Cause.TheVariants.{TableTooLarge}
use Rattle.pol_fields.specs.declared.fields.TheConstants.{COMMON_LEN, COMMON_VALUE, COMMON_NPRIM, COMMON_NEL, COMMON_NAME}
use Rattle.pol_cursor.specs.Outcome.{Reader, ◌>>=◌, done}
use Rattle.pol_cursor.specs.Parts.{num, number, number_if, unless}
use Rattle.pol_cursor.specs.Spelling.{bytes_of}
use Rattle.pol_symtab.specs.Claims.{Claims, with_claim}
use Rattle.pol_symtab.specs.SymbolFields.{new_value_test, symbol_length_at, symbol_name_at}
use Rattle.pol_commons.specs.declared.common_rec.CommonRec.{CommonRec}
use Rattle.pol_commons.specs.PermissionRecord.{permission_limit, spell_permission, PermissionFits}
use Rattle.pol_commons.specs.Permissions.{permissions_at, permissions_in, HavePermissions}

-- ---- reading and spelling

-- the greatest permission value has a bit in 32 (libsepol's PERM_SYMTAB_SIZE)
abbrev pub permission_count_test : ℕ → Option Cause
permission_count_test nprim = unless (nat_le nprim permission_limit) TableTooLarge

unfoldable pub common_at : Claims → ℕ → Reader CommonRec
common_at taken nprim = do
  len ← symbol_length_at COMMON_LEN
  value ← number_if COMMON_VALUE 4 (new_value_test nprim taken)
  own_nprim ← number_if COMMON_NPRIM 4 permission_count_test
  count ← number COMMON_NEL 4
  name ← symbol_name_at COMMON_NAME taken len
  permissions ← permissions_at [] count
  done (record { name = name; value = value; nprim = own_nprim; permissions = permissions })

abbrev pub spell_common : CommonRec → List ℕ
spell_common common =
    bytes_of 4 (length common.name) ++ bytes_of 4 common.value ++ bytes_of 4 common.nprim ++ bytes_of 4 (length common.permissions) ++ common.name
    ++ flat_map spell_permission common.permissions

-- the numbers of a common fit their fields
pub record CommonFits (common : CommonRec) : Type 0 where
  pub len : length common.name < 2 ^ 32
  pub value : common.value < 2 ^ 32
  pub nprim : common.nprim < 2 ^ 32
  pub count : length common.permissions < 2 ^ 32
  pub permissions : AllByRecursion PermissionFits common.permissions

-- what the records before have taken, and a common
abbrev pub with_common : Claims → CommonRec → Claims
with_common taken common = with_claim taken common.name (Some common.value)

-- ---- the common that stands at a place

-- where its permissions begin
abbrev pub common_permissions : List ℕ → ℕ → ℕ
common_permissions bytes place = place + 16 + num bytes place 4

abbrev pub common_in : List ℕ → ℕ → CommonRec
common_in bytes place = record {
  name = take (num bytes place 4) (drop (place + 16) bytes);
  value = num bytes (place + 4) 4;
  nprim = num bytes (place + 8) 4;
  permissions = permissions_in bytes (common_permissions bytes place) (num bytes (place + 12) 4);
}

-- a common stands there, in a buffer of a policy's size
abbrev pub HasCommon : List ℕ → ℕ → Type 0
HasCommon bytes place =
    (common_permissions bytes place ≤ length bytes) × (length bytes ≤ MAX_POLICY_BYTES) × HavePermissions bytes (common_permissions bytes place) (num bytes (place + 12) 4)
