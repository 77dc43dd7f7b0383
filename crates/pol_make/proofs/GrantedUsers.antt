-- The users of a policy that is made are read.
use Rattle.std.proofs.Common.{◌≡◌, ℕ, true, None, length, refl, append_assoc, arith}
use Rattle.std.specs.List.{AllByRecursion}
use Rattle.std.proofs.lemmas.List.{append-nil}
use Rattle.pol_fields.specs.declared.fields.TheConstants.{USER_LEN, USER_VALUE, USER_BOUNDS, USER_NAME, LEVEL_SENS, RANGE_N, RANGE_LOW, RANGE_HIGH}
use Rattle.pol_cursor.specs.Outcome.{Reader}
use Rattle.pol_bitmap.specs.Bitmap.{bitmap_at, spell_bitmap}
use Rattle.pol_mls.specs.LevelRecord.{level_at, spell_level, LevelFits}
use Rattle.pol_mls.specs.RangeRecord.{range_at, spell_range, RangeFits}
use Rattle.pol_symtab.specs.declared.TableContext.{TableContext}
use Rattle.pol_symtab.specs.Claims.{Claims, claims_after}
use Rattle.pol_symtab.specs.SymbolTables.{table_at, table_start, spell_table, TableFits}
use Rattle.pol_symbols.specs.declared.UserRec.{UserRec}
use Rattle.pol_symbols.specs.UserRecord.{user_at, spell_user, UserFits}
use Rattle.pol_make.specs.MadeSymbols.{bare_level, whole_range, made_users}
use Rattle.pol_moved.proofs.Granted.{GrantsOf, EachUnder, grants-done, grants-then, grants-as, grants-number, grants-number_if, grants-some}
use Rattle.pol_make.proofs.GrantedTables.{GrantsBare, grants-table}
use Rattle.pol_moved.proofs.GrantedSets.{set-fits}
use Rattle.pol_make.proofs.GrantedSymbols.{MayStand, stands-so, grants-length, grants-name, grants-new_value, grants-bounds}
use Rattle.pol_make.proofs.GrantedFew.{no-bits, one-bit, first_bits-fit, first_bits-granted, nothing-granted, one-granted}

-- ---- its range and its level

bare_level-fits : LevelFits bare_level
bare_level-fits = record { sens = omega arith; categories = set-fits no-bits }

bare_level-granted : GrantsOf level_at bare_level (spell_level bare_level)
unfolding level_at
bare_level-granted =
    grants-as
    (grants-then _ (grants-number LEVEL_SENS 4 1 (omega arith))
    (grants-then _ nothing-granted
    (grants-done bare_level refl)))
    (simp (append_assoc, append-nil))

whole_range-fits : RangeFits whole_range
whole_range-fits = record { n = omega arith; low = omega arith; low_categories = set-fits no-bits; high = (refl, record { sens = omega arith; categories = first_bits-fit 1024 (omega arith) }) }

whole_range-granted : GrantsOf range_at whole_range (spell_range whole_range)
unfolding range_at
whole_range-granted =
    grants-as
    (grants-then _ (grants-number_if RANGE_N 4 2 _ (omega arith) refl)
    (grants-then _ (grants-number RANGE_LOW 4 1 (omega arith))
    (grants-then _ (grants-some (grants-number RANGE_HIGH 4 1 (omega arith)))
    (grants-then _ nothing-granted
    (grants-then _ (grants-some (first_bits-granted 1024 (omega arith)))
    (grants-done whole_range refl))))))
    (simp (append_assoc, append-nil))

-- ---- a user

user-granted : (claims : Claims) (nprim : ℕ) (user : UserRec) → UserFits user → MayStand claims nprim user.name user.value → GrantsOf (bitmap_at None) user.roles (spell_bitmap user.roles) → GrantsOf range_at user.range (spell_range user.range)
    → GrantsOf level_at user.level (spell_level user.level) → GrantsOf (user_at claims nprim) user (spell_user user)
unfolding user_at
user-granted claims nprim user fits may roles range level =
    grants-as
    (grants-then _ (grants-length USER_LEN (length user.name) may.is_name.some fits.len)
    (grants-then _ (grants-new_value USER_VALUE nprim claims user.value fits.value may.least may.most may.value_is_new)
    (grants-then _ (grants-bounds USER_BOUNDS user.bounds fits.bounds)
    (grants-then _ (grants-name USER_NAME claims user.name may.is_name may.name_is_new)
    (grants-then _ roles
    (grants-then _ range
    (grants-then _ level
    (grants-done user refl))))))))
    (simp (append_assoc, append-nil))

-- ---- the table

abbrev pub after_user : TableContext → UserRec → TableContext
after_user context user = record context { taken = claims_after context.taken user.name true user.value }

abbrev pub user_under : TableContext → Reader UserRec
user_under context = user_at context.taken context.nprim

users-are : AllByRecursion UserFits made_users
unfolding made_users
users-are = (record { len = omega arith; value = omega arith; bounds = omega arith; roles = set-fits (one-bit 1 (omega arith)); range = whole_range-fits; level = bare_level-fits }, tt)

length-users : length made_users ≡ 1
unfolding made_users
length-users = refl

pub users-fit : TableFits UserFits (record { nprim = 1; records = made_users })
users-fit = record { nprim = omega arith; nel = omega (arith, length-users); records = users-are }

users-stand : EachUnder (λ left context user. GrantsOf (user_under context) user (spell_user user)) after_user (table_start 1) made_users
unfolding made_users
users-stand = (user-granted _ 1 _ users-are.0 (stands-so _ 1 _ 1 refl) (one-granted 1 (omega arith)) whole_range-granted bare_level-granted, tt)

pub users-granted : GrantsBare (table_at user_under after_user table_start) (record { nprim = 1; records = made_users }) (spell_table spell_user (record { nprim = 1; records = made_users }))
users-granted =
    grants-table user_under after_user table_start spell_user (λ left context user. GrantsOf (user_under context) user (spell_user user)) (λ left context user may. may) (record { nprim = 1; records = made_users })
    (omega arith) (omega (arith, length-users)) users-stand
