-- The permissions of a class or of a common, one behind the other.
use Rattle.std.specs.Prelude.{ℕ, ◌-◌, ◌^◌, ◌==◌, Bool, List, [], ◌∷◌, ◌++◌, Option, nat_eq, bit_or}
use Rattle.std.specs.Int.{bit_at}
use Rattle.std.specs.List.{find, fold}
use Rattle.std.specs.Str.{bytes_eq}
use Rattle.pol_cursor.specs.Outcome.{Reader}
use Rattle.pol_cursor.specs.Parts.{list_of}
use Rattle.pol_cursor.specs.References.{values_of}
use Rattle.pol_cursor.specs.NestedRecords.{nested_in, nested_end, HasNested}
use Rattle.pol_commons.specs.declared.permission_rec.PermissionRec.{PermissionRec}
use Rattle.pol_commons.specs.PermissionRecord.{permission_at, permission_in, permission_end, HasPermission}

-- ---- reading

abbrev pub with_permission : List PermissionRec → PermissionRec → List PermissionRec
with_permission listed permission = listed ++ permission ∷ []

-- n permissions, each under those before it and those that are inherited
unfoldable pub permissions_at : List PermissionRec → ℕ → Reader (List PermissionRec)
permissions_at inherited n = list_of (λ left listed. permission_at listed inherited) with_permission n []

-- ---- the permissions that stand from a place on

-- n of them
abbrev pub permissions_in : List ℕ → ℕ → ℕ → List PermissionRec
permissions_in bytes place n = values_of (nested_in permission_in permission_end bytes place n)

-- the place behind them
abbrev pub permissions_end : List ℕ → ℕ → ℕ → ℕ
permissions_end = nested_end permission_end

-- they stand there
abbrev pub HavePermissions : List ℕ → ℕ → ℕ → Type 0
HavePermissions = HasNested HasPermission permission_end

-- ---- look-ups

-- the permission of a value
abbrev pub of_value : ℕ → List PermissionRec → Option PermissionRec
of_value value permissions = find (λ p. nat_eq value p.value) permissions

-- the permission of a name
abbrev pub of_name : List ℕ → List PermissionRec → Option PermissionRec
of_name name permissions = find (λ p. bytes_eq name p.name) permissions

-- ---- permissions as bits of a mask (libsepol's access vectors): bit v - 1 stands for the value v

-- the bit of a permission
abbrev pub bit_of : PermissionRec → ℕ
bit_of permission = 2 ^ (permission.value - 1)

-- the bits of permissions together
abbrev pub mask_of : List PermissionRec → ℕ
mask_of permissions = fold (λ mask p. bit_or mask (bit_of p)) 0 permissions

-- a mask has the permission of a value
abbrev pub mask_has : ℕ → ℕ → Bool
mask_has mask value = bit_at mask (value - 1) == 1

-- a mask has a permission
abbrev pub has_permission : ℕ → PermissionRec → Bool
has_permission mask permission = mask_has mask permission.value
