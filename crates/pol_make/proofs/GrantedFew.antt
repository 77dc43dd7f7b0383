-- The commons, roles, booleans and levels of a policy that is made are read.
use Rattle.std.proofs.Common.{◌≡◌, ℕ, ◌+◌, ◌^◌, ◌<◌, ◌≤◌, Bool, true, None, List, [], ◌∷◌, ◌++◌, length, refl, append_assoc, arith}
use Rattle.std.specs.Prelude.{◌&&◌, nat_lt}
use Rattle.std.specs.List.{flat_map, AllByRecursion, range_with_len}
use Rattle.std.proofs.lemmas.Bool.{and_parts, ltb-true, le-leb}
use Rattle.std.proofs.lemmas.List.{append-nil}
use Rattle.pol_fields.specs.declared.fields.TheConstants.{PERMISSION_LEN, PERMISSION_VALUE, PERMISSION_NAME, COMMON_LEN, COMMON_VALUE, COMMON_NPRIM, COMMON_NEL, COMMON_NAME}
use Rattle.pol_cursor.specs.Outcome.{Reader}
use Rattle.pol_bitmap.specs.Bitmap.{bitmap_at, spell_bitmap, BitmapFits}
use Rattle.pol_symtab.specs.declared.TableContext.{TableContext}
use Rattle.pol_symtab.specs.Claims.{Claims, claims_after}
use Rattle.pol_symtab.specs.SymbolTables.{table_at, table_start, spell_table, TableFits}
use Rattle.pol_commons.specs.declared.PermissionRec.{PermissionRec}
use Rattle.pol_commons.specs.declared.CommonRec.{CommonRec}
use Rattle.pol_commons.specs.PermissionRecord.{permission_limit, claims_before, permission_value_at, permission_at, spell_permission, PermissionFits}
use Rattle.pol_commons.specs.Permissions.{with_permission, permissions_at}
use Rattle.pol_commons.specs.CommonRecord.{common_at, spell_common, CommonFits}
use Rattle.pol_commons.specs.CommonTable.{common_under, after_common, commons_at}
use Rattle.pol_datums.specs.declared.RoleRec.{RoleRec}
use Rattle.pol_datums.specs.declared.BooleanRec.{BooleanRec}
use Rattle.pol_datums.specs.declared.SensitivityRec.{SensitivityRec}
use Rattle.pol_datums.specs.RoleRecord.{role_at, spell_role, RoleFits}
use Rattle.pol_datums.specs.BooleanRecord.{boolean_at, spell_boolean, BooleanFits}
use Rattle.pol_datums.specs.SensitivityRecord.{sensitivity_at, spell_sensitivity, SensitivityFits}
use Rattle.pol_datums.specs.Flags.{is_primary_flag}
use Rattle.set_nodes.specs.SetNodes.{set_of, first_bits}
use Rattle.pol_make.specs.MadeSymbols.{file_permissions, made_commons, made_roles, made_booleans, made_levels}
use Rattle.pol_moved.proofs.Granted.{GrantsOf, EachUnder, grants-done, grants-then, grants-as, grants-number, grants-number_if, grants-list_of}
use Rattle.pol_make.proofs.GrantedTables.{GrantsBare, grants-table}
use Rattle.pol_moved.proofs.GrantedSets.{AreBits, set-fits, set-granted}
use Rattle.pol_moved.proofs.ListFacts.{all-range}
use Rattle.set_nodes.proofs.SetBits.{range-rises}
use Rattle.pol_make.proofs.GrantedSymbols.{MayStand, may_stand, stands-so, grants-length, grants-name, new_value-stands, role-granted, boolean-granted, level-granted}

-- ---- sets

pub no-bits : AreBits 0 []
no-bits = record { small = omega arith; rise = tt; below = tt }

pub one-bit : (bit : ℕ) → bit < 2 ^ 31 → AreBits (bit + 1) (bit ∷ [])
one-bit bit small = record { small = omega arith; rise = (omega arith, tt); below = (omega arith, tt) }

row-bits : (count : ℕ) → count ≤ 2 ^ 31 → AreBits count (range_with_len 0 count)
row-bits count small = record { small = small; rise = range-rises 0 count; below = all-range (λ b. b < count) 0 count (λ i above below. omega (arith, below)) }

pub first_bits-fit : (count : ℕ) → count ≤ 2 ^ 31 → BitmapFits (first_bits count)
unfolding first_bits
first_bits-fit count small = set-fits (row-bits count small)

pub first_bits-granted : (count : ℕ) → count ≤ 2 ^ 31 → GrantsOf (bitmap_at None) (first_bits count) (spell_bitmap (first_bits count))
unfolding first_bits
first_bits-granted count small = set-granted (row-bits count small)

pub nothing-granted : GrantsOf (bitmap_at None) (set_of []) (spell_bitmap (set_of []))
nothing-granted = set-granted no-bits

pub one-granted : (bit : ℕ) → bit < 2 ^ 31 → GrantsOf (bitmap_at None) (set_of (bit ∷ [])) (spell_bitmap (set_of (bit ∷ [])))
one-granted bit small = set-granted (one-bit bit small)

-- ---- permissions

permission-granted : (listed inherited : List PermissionRec) (p : PermissionRec) → PermissionFits p → MayStand (claims_before listed inherited) permission_limit p.name p.value → GrantsOf (permission_at listed inherited) p (spell_permission p)
unfolding permission_at permission_value_at
permission-granted listed inherited p fits may =
    grants-as
    (grants-then _ (grants-length PERMISSION_LEN (length p.name) may.is_name.some fits.len)
    (grants-then _ (grants-number_if PERMISSION_VALUE 4 p.value _ fits.value (new_value-stands (claims_before listed inherited) permission_limit p.value may.least may.most may.value_is_new))
    (grants-then _ (grants-name PERMISSION_NAME (claims_before listed inherited) p.name may.is_name may.name_is_new)
    (grants-done p refl))))
    (simp (append_assoc, append-nil))

-- each of some permissions that are written out may stand behind the others and those that are inherited: as a test that computes
abbrev pub permissions_stand : List PermissionRec → List PermissionRec → List PermissionRec → Bool
permissions_stand inherited listed [] = true
permissions_stand inherited listed (p ∷ ps) =
    may_stand (claims_before listed inherited) permission_limit p.name p.value && (nat_lt (length p.name) (2 ^ 32) && (nat_lt p.value (2 ^ 32) && permissions_stand inherited (listed ++ p ∷ []) ps))

abbrev PermissionMay : List PermissionRec → List PermissionRec → PermissionRec → Type 0
PermissionMay inherited listed p = PermissionFits p × MayStand (claims_before listed inherited) permission_limit p.name p.value

permissions-each : (inherited listed ps : List PermissionRec) → permissions_stand inherited listed ps ≡ true → EachUnder (λ left. PermissionMay inherited) with_permission listed ps × AllByRecursion PermissionFits ps
permissions-each inherited listed [] e = (tt, tt)
permissions-each inherited listed (p ∷ ps) e =
    let a = and_parts (may_stand (claims_before listed inherited) permission_limit p.name p.value) _ e in
    let b = and_parts (nat_lt (length p.name) (2 ^ 32)) _ a.1 in
    let c = and_parts (nat_lt p.value (2 ^ 32)) (permissions_stand inherited (listed ++ p ∷ []) ps) b.1 in
    let fits : PermissionFits p = record { len = ltb-true (length p.name) (2 ^ 32) b.0; value = ltb-true p.value (2 ^ 32) c.0 } in
    let others = permissions-each inherited (listed ++ p ∷ []) ps c.1 in
    (((fits, stands-so (claims_before listed inherited) permission_limit p.name p.value a.0), others.0), (fits, others.1))

pub permissions-granted : (inherited ps : List PermissionRec) → permissions_stand inherited [] ps ≡ true → GrantsOf (permissions_at inherited (length ps)) ps (flat_map spell_permission ps)
unfolding permissions_at
permissions-granted inherited ps e =
    grants-list_of (λ left listed. permission_at listed inherited) with_permission spell_permission (λ left. PermissionMay inherited) (λ left listed p may. permission-granted listed inherited p may.0 may.1) ps [] (permissions-each inherited [] ps e).0

pub permissions-fit : (inherited ps : List PermissionRec) → permissions_stand inherited [] ps ≡ true → AllByRecursion PermissionFits ps
permissions-fit inherited ps e = (permissions-each inherited [] ps e).1

-- ---- the common

common-granted : (claims : Claims) (nprim : ℕ) (common : CommonRec) → CommonFits common → MayStand claims nprim common.name common.value → common.nprim ≤ 32 → permissions_stand [] [] common.permissions ≡ true → GrantsOf (common_at claims nprim) common (spell_common common)
unfolding common_at
common-granted claims nprim common fits may few stand =
    grants-as
    (grants-then _ (grants-length COMMON_LEN (length common.name) may.is_name.some fits.len)
    (grants-then _ (grants-number_if COMMON_VALUE 4 common.value _ fits.value (new_value-stands claims nprim common.value may.least may.most may.value_is_new))
    (grants-then _ (grants-number_if COMMON_NPRIM 4 common.nprim _ fits.nprim (rw (le-leb common.nprim 32 few) refl))
    (grants-then _ (grants-number COMMON_NEL 4 (length common.permissions) fits.count)
    (grants-then _ (grants-name COMMON_NAME claims common.name may.is_name may.name_is_new)
    (grants-then _ (permissions-granted [] common.permissions stand)
    (grants-done common refl)))))))
    (simp (append_assoc, append-nil))

file_permissions-stand : permissions_stand [] [] file_permissions ≡ true
unfolding file_permissions
file_permissions-stand = refl

file_permissions-few : length file_permissions < 2 ^ 32
unfolding file_permissions
file_permissions-few = omega arith

commons-are : AllByRecursion CommonFits made_commons
unfolding made_commons
commons-are = (record { len = omega arith; value = omega arith; nprim = omega arith; count = file_permissions-few; permissions = permissions-fit [] file_permissions file_permissions-stand }, tt)

length-commons : length made_commons ≡ 1
unfolding made_commons
length-commons = refl

pub commons-fit : TableFits CommonFits (record { nprim = 1; records = made_commons })
commons-fit = record { nprim = omega arith; nel = omega (arith, length-commons); records = commons-are }

commons-stand : EachUnder (λ left context common. GrantsOf (common_under context) common (spell_common common)) after_common (table_start 1) made_commons
unfolding made_commons
commons-stand = (common-granted _ 1 _ commons-are.0 (stands-so _ 1 _ 1 refl) (omega arith) file_permissions-stand, tt)

pub commons-granted : GrantsBare commons_at (record { nprim = 1; records = made_commons }) (spell_table spell_common (record { nprim = 1; records = made_commons }))
unfolding commons_at
commons-granted =
    grants-table common_under after_common table_start spell_common (λ left context common. GrantsOf (common_under context) common (spell_common common)) (λ left context common may. may) (record { nprim = 1; records = made_commons })
    (omega arith) (omega (arith, length-commons)) commons-stand

-- ---- roles

abbrev pub after_role : TableContext → RoleRec → TableContext
after_role context role = record context { taken = claims_after context.taken role.name true role.value }

abbrev pub role_under : TableContext → Reader RoleRec
role_under context = role_at context.taken context.nprim

roles-are : (n : ℕ) → n ≤ 5000 → AllByRecursion RoleFits (made_roles n)
unfolding made_roles
roles-are n most = (
  record { len = omega arith; value = omega arith; bounds = omega arith; dominates = set-fits (one-bit 0 (omega arith)); types = set-fits no-bits },
  (record { len = omega arith; value = omega arith; bounds = omega arith; dominates = set-fits (one-bit 1 (omega arith)); types = first_bits-fit n (omega arith) }, tt),
)

length-roles : (n : ℕ) → length (made_roles n) ≡ 2
unfolding made_roles
length-roles n = refl

pub roles-fit : (n : ℕ) → n ≤ 5000 → TableFits RoleFits (record { nprim = 2; records = made_roles n })
roles-fit n most = record { nprim = omega arith; nel = omega (arith, length-roles n); records = roles-are n most }

roles-stand : (n : ℕ) → n ≤ 5000 → EachUnder (λ left context role. GrantsOf (role_under context) role (spell_role role)) after_role (table_start 2) (made_roles n)
unfolding made_roles
roles-stand n most =
    let fit = roles-are n most in (
      role-granted _ 2 _ fit.0 (stands-so _ 2 _ 1 refl) (one-granted 0 (omega arith)) nothing-granted,
      (role-granted _ 2 _ fit.1.0 (stands-so _ 2 _ 2 refl) (one-granted 1 (omega arith)) (first_bits-granted n (omega arith)), tt),
    )

pub roles-granted : (n : ℕ) → n ≤ 5000 → GrantsBare (table_at role_under after_role table_start) (record { nprim = 2; records = made_roles n }) (spell_table spell_role (record { nprim = 2; records = made_roles n }))
roles-granted n most =
    grants-table role_under after_role table_start spell_role (λ left context role. GrantsOf (role_under context) role (spell_role role)) (λ left context role may. may) (record { nprim = 2; records = made_roles n })
    (omega arith) (omega (arith, length-roles n)) (roles-stand n most)

-- ---- booleans

abbrev pub after_boolean : TableContext → BooleanRec → TableContext
after_boolean context boolean = record context { taken = claims_after context.taken boolean.name true boolean.value }

abbrev pub boolean_under : TableContext → Reader BooleanRec
boolean_under context = boolean_at context.taken context.nprim

booleans-are : AllByRecursion BooleanFits made_booleans
unfolding made_booleans
booleans-are = (record { value = omega arith; state = omega arith; len = omega arith }, (record { value = omega arith; state = omega arith; len = omega arith }, tt))

length-booleans : length made_booleans ≡ 2
unfolding made_booleans
length-booleans = refl

pub booleans-fit : TableFits BooleanFits (record { nprim = 2; records = made_booleans })
booleans-fit = record { nprim = omega arith; nel = omega (arith, length-booleans); records = booleans-are }

booleans-stand : EachUnder (λ left context boolean. GrantsOf (boolean_under context) boolean (spell_boolean boolean)) after_boolean (table_start 2) made_booleans
unfolding made_booleans
booleans-stand =
    let fit = booleans-are in
    (boolean-granted _ 2 _ fit.0 (stands-so _ 2 _ 1 refl) (omega arith), (boolean-granted _ 2 _ fit.1.0 (stands-so _ 2 _ 2 refl) (omega arith), tt))

pub booleans-granted : GrantsBare (table_at boolean_under after_boolean table_start) (record { nprim = 2; records = made_booleans }) (spell_table spell_boolean (record { nprim = 2; records = made_booleans }))
booleans-granted =
    grants-table boolean_under after_boolean table_start spell_boolean (λ left context boolean. GrantsOf (boolean_under context) boolean (spell_boolean boolean)) (λ left context boolean may. may) (record { nprim = 2; records = made_booleans })
    (omega arith) (omega (arith, length-booleans)) booleans-stand

-- ---- levels

abbrev pub after_level : TableContext → SensitivityRec → TableContext
after_level context level = record context { taken = claims_after context.taken level.name (is_primary_flag level.isalias) level.sens }

abbrev pub level_under : TableContext → Reader SensitivityRec
level_under context = sensitivity_at context.taken context.nprim

levels-are : AllByRecursion SensitivityFits made_levels
unfolding made_levels
levels-are = (record { len = omega arith; isalias = omega arith; sens = omega arith; categories = first_bits-fit 1024 (omega arith) }, tt)

length-levels : length made_levels ≡ 1
unfolding made_levels
length-levels = refl

pub levels-fit : TableFits SensitivityFits (record { nprim = 1; records = made_levels })
levels-fit = record { nprim = omega arith; nel = omega (arith, length-levels); records = levels-are }

levels-stand : EachUnder (λ left context level. GrantsOf (level_under context) level (spell_sensitivity level)) after_level (table_start 1) made_levels
unfolding made_levels
levels-stand = (level-granted _ 1 _ levels-are.0 (stands-so _ 1 _ 1 refl) (omega arith) (first_bits-granted 1024 (omega arith)), tt)

pub levels-granted : GrantsBare (table_at level_under after_level table_start) (record { nprim = 1; records = made_levels }) (spell_table spell_sensitivity (record { nprim = 1; records = made_levels }))
levels-granted =
    grants-table level_under after_level table_start spell_sensitivity (λ left context level. GrantsOf (level_under context) level (spell_sensitivity level)) (λ left context level may. may) (record { nprim = 1; records = made_levels })
    (omega arith) (omega (arith, length-levels)) levels-stand
