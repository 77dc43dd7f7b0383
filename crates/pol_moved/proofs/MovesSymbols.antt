-- The records of the symbol tables and their parts are read in the same way wherever they stand.
use Rattle.std.proofs.Common.{ℕ, Option, None, List}
use Rattle.pol_fields.specs.declared.Field.{Field}
use Rattle.pol_fields.specs.declared.fields.TheConstants.{BITMAP_UNIT, BITMAP_HIGHBIT, BITMAP_COUNT, BITMAP_STARTBIT, BITMAP_MAP}
use Rattle.pol_cursor.specs.Outcome.{Reader}
use Rattle.pol_cursor.specs.FileNames.{name_length_at, name_bytes_at, name_at}
use Rattle.pol_bitmap.specs.Bitmap.{node_at, nodes_at, bitmap_at, floor_after}
use Rattle.pol_symtab.specs.Claims.{Claims}
use Rattle.pol_symtab.specs.SymbolFields.{symbol_length_at, symbol_name_at}
use Rattle.pol_symtab.specs.SymbolTables.{table_head_at, bare_table_at}
use Rattle.pol_commons.specs.declared.PermissionRec.{PermissionRec}
use Rattle.pol_commons.specs.PermissionRecord.{permission_value_at, permission_at}
use Rattle.pol_commons.specs.Permissions.{permissions_at, with_permission}
use Rattle.pol_commons.specs.CommonRecord.{common_at}
use Rattle.pol_datums.specs.Flags.{flag_at}
use Rattle.pol_datums.specs.SymbolValues.{value_at, new_value_at, bounds_at}
use Rattle.pol_datums.specs.RoleRecord.{role_at}
use Rattle.pol_datums.specs.TypeRecord.{type_at}
use Rattle.pol_datums.specs.BooleanRecord.{boolean_at}
use Rattle.pol_datums.specs.SensitivityRecord.{sens_at, sensitivity_at}
use Rattle.pol_datums.specs.CategoryRecord.{category_at}
use Rattle.pol_mls.specs.LevelRecord.{level_at}
use Rattle.pol_mls.specs.RangeRecord.{range_at}
use Rattle.pol_mls.specs.ContextRecord.{context_at}
use Rattle.pol_symbols.specs.UserRecord.{user_at}
use Rattle.pol_moved.proofs.Moves.{Moves, moves-done, moves-then, moves-number, moves-number_if, moves-string_if, moves-optional, moves-list_of}

-- ---- names and bitmaps

pub moves-name_length : (d : Field) → Moves (name_length_at d)
unfolding name_length_at
moves-name_length d = moves-number_if d 4 _

pub moves-name_bytes : (d : Field) (len : ℕ) → Moves (name_bytes_at d len)
unfolding name_bytes_at
moves-name_bytes d len = moves-string_if d len _

pub moves-name : (len_field name_field : Field) → Moves (name_at len_field name_field)
unfolding name_at
moves-name len_field name_field = moves-then (moves-name_length len_field) λ len. moves-then (moves-name_bytes name_field len) λ name. moves-done name

moves-node : (limit : Option ℕ) (highbit left floor : ℕ) → Moves (node_at limit highbit left floor)
unfolding node_at
moves-node limit highbit left floor = moves-then (moves-number_if BITMAP_STARTBIT 4 _) λ start. moves-then (moves-number_if BITMAP_MAP 8 _) λ map. moves-done _

pub moves-bitmap : (limit : Option ℕ) → Moves (bitmap_at limit)
unfolding bitmap_at nodes_at
moves-bitmap limit =
    moves-then (moves-number_if BITMAP_UNIT 4 _) λ unit.
    moves-then (moves-number_if BITMAP_HIGHBIT 4 _) λ highbit.
    moves-then (moves-number_if BITMAP_COUNT 4 _) λ count.
    moves-list_of (node_at limit highbit) floor_after (moves-node limit highbit) count 0

-- ---- the parts of symbols

pub moves-symbol_length : (d : Field) → Moves (symbol_length_at d)
unfolding symbol_length_at
moves-symbol_length d = moves-number_if d 4 _

pub moves-symbol_name : (d : Field) (claims : Claims) (len : ℕ) → Moves (symbol_name_at d claims len)
unfolding symbol_name_at
moves-symbol_name d claims len = moves-string_if d len _

moves-flag : (d : Field) → Moves (flag_at d)
unfolding flag_at
moves-flag d = moves-number_if d 4 _

moves-value : (d : Field) (nprim : ℕ) → Moves (value_at d nprim)
unfolding value_at
moves-value d nprim = moves-number_if d 4 _

moves-new_value : (d : Field) (nprim : ℕ) (claims : Claims) → Moves (new_value_at d nprim claims)
unfolding new_value_at
moves-new_value d nprim claims = moves-number_if d 4 _

moves-bounds : (d : Field) → Moves (bounds_at d)
unfolding bounds_at
moves-bounds d = moves-number d 4

-- ---- permissions and commons

moves-permission_value : (claims : Claims) → Moves (permission_value_at claims)
unfolding permission_value_at
moves-permission_value claims = moves-number_if _ 4 _

moves-permission : (listed inherited : List PermissionRec) → Moves (permission_at listed inherited)
unfolding permission_at
moves-permission listed inherited = moves-then (moves-symbol_length _) λ len. moves-then (moves-permission_value _) λ value. moves-then (moves-symbol_name _ _ len) λ name. moves-done _

pub moves-permissions : (inherited : List PermissionRec) (n : ℕ) → Moves (permissions_at inherited n)
unfolding permissions_at
moves-permissions inherited n = moves-list_of (λ left listed. permission_at listed inherited) with_permission (λ left listed. moves-permission listed inherited) n _

pub moves-common : (claims : Claims) (nprim : ℕ) → Moves (common_at claims nprim)
unfolding common_at
moves-common claims nprim =
    moves-then (moves-symbol_length _) λ len.
    moves-then (moves-number_if _ 4 _) λ value.
    moves-then (moves-number_if _ 4 _) λ own_nprim.
    moves-then (moves-number _ 4) λ count.
    moves-then (moves-symbol_name _ claims len) λ name.
    moves-then (moves-permissions _ count) λ permissions.
    moves-done _

-- ---- the other records

pub moves-role : (claims : Claims) (nprim : ℕ) → Moves (role_at claims nprim)
unfolding role_at
moves-role claims nprim =
    moves-then (moves-symbol_length _) λ len.
    moves-then (moves-new_value _ nprim claims) λ value.
    moves-then (moves-bounds _) λ bounds.
    moves-then (moves-symbol_name _ claims len) λ name.
    moves-then (moves-bitmap None) λ dominates.
    moves-then (moves-bitmap None) λ types.
    moves-done _

pub moves-type : (claims : Claims) (nprim : ℕ) → Moves (type_at claims nprim)
unfolding type_at
moves-type claims nprim =
    moves-then (moves-symbol_length _) λ len.
    moves-then (moves-value _ nprim) λ value.
    moves-then (moves-number_if _ 4 _) λ properties.
    moves-then (moves-bounds _) λ bounds.
    moves-then (moves-symbol_name _ claims len) λ name.
    moves-done _

pub moves-boolean : (claims : Claims) (nprim : ℕ) → Moves (boolean_at claims nprim)
unfolding boolean_at
moves-boolean claims nprim =
    moves-then (moves-new_value _ nprim claims) λ value.
    moves-then (moves-flag _) λ state.
    moves-then (moves-symbol_length _) λ len.
    moves-then (moves-symbol_name _ claims len) λ name.
    moves-done _

moves-sens : (nprim : ℕ) (claims : Claims) (isalias : ℕ) → Moves (sens_at nprim claims isalias)
unfolding sens_at
moves-sens nprim claims isalias = moves-number_if _ 4 _

pub moves-sensitivity : (claims : Claims) (nprim : ℕ) → Moves (sensitivity_at claims nprim)
unfolding sensitivity_at
moves-sensitivity claims nprim =
    moves-then (moves-symbol_length _) λ len.
    moves-then (moves-flag _) λ isalias.
    moves-then (moves-symbol_name _ claims len) λ name.
    moves-then (moves-sens nprim claims isalias) λ sens.
    moves-then (moves-bitmap None) λ categories.
    moves-done _

pub moves-category : (claims : Claims) (nprim : ℕ) → Moves (category_at claims nprim)
unfolding category_at
moves-category claims nprim =
    moves-then (moves-symbol_length _) λ len.
    moves-then (moves-value _ nprim) λ value.
    moves-then (moves-number_if _ 4 _) λ isalias.
    moves-then (moves-symbol_name _ claims len) λ name.
    moves-done _

moves-level : Moves level_at
unfolding level_at
moves-level = moves-then (moves-number _ 4) λ sens. moves-then (moves-bitmap None) λ categories. moves-done _

pub moves-range : Moves range_at
unfolding range_at
moves-range =
    moves-then (moves-number_if _ 4 _) λ n.
    moves-then (moves-number _ 4) λ low.
    moves-then (moves-optional _ (moves-number _ 4)) λ high.
    moves-then (moves-bitmap None) λ low_categories.
    moves-then (moves-optional _ (moves-bitmap None)) λ high_categories.
    moves-done _

pub moves-context : Moves context_at
unfolding context_at
moves-context =
    moves-then (moves-number _ 4) λ user.
    moves-then (moves-number _ 4) λ role.
    moves-then (moves-number _ 4) λ type_value.
    moves-then moves-range λ range.
    moves-done _

pub moves-user : (claims : Claims) (nprim : ℕ) → Moves (user_at claims nprim)
unfolding user_at
moves-user claims nprim =
    moves-then (moves-symbol_length _) λ len.
    moves-then (moves-new_value _ nprim claims) λ value.
    moves-then (moves-bounds _) λ bounds.
    moves-then (moves-symbol_name _ claims len) λ name.
    moves-then (moves-bitmap None) λ roles.
    moves-then moves-range λ range.
    moves-then moves-level λ level.
    moves-done _

-- ---- whole tables

moves-table_head : Moves table_head_at
unfolding table_head_at
moves-table_head = moves-then (moves-number_if _ 4 _) λ nprim. moves-then (moves-number _ 4) λ nel. moves-done _

pub moves-bare_table : {S A : Type 0} (record_at : S → Reader A) (after : S → A → S) (start : ℕ → S) → ((context : S) → Moves (record_at context)) → Moves (bare_table_at record_at after start)
unfolding bare_table_at
moves-bare_table record_at after start each =
    moves-then moves-table_head λ head.
    moves-then (moves-list_of (λ left context. record_at context) after (λ left context. each context) head.nel (start head.nprim)) λ records.
    moves-done _
