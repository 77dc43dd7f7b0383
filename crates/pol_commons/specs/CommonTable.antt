-- The table of commons, and what a class inherits from one of them (libsepol's class_read finds it by its name).
use Rattle.std.specs.Prelude.{List, [], ℕ, Option, unwrap_or, option_map}
use Rattle.std.specs.List.{find}
use Rattle.pol_cursor.specs.Outcome.{Reader}
use Rattle.pol_cursor.specs.References.{Placed}
use Rattle.pol_symtab.specs.declared.taken.TableContext.{TableContext}
use Rattle.pol_symtab.specs.SymbolTables.{Table, table_at, table_start, has_the_name}
use Rattle.pol_commons.specs.declared.permission_rec.PermissionRec.{PermissionRec}
use Rattle.pol_commons.specs.declared.common_rec.CommonRec.{CommonRec}
use Rattle.pol_commons.specs.CommonRecord.{common_at, with_common}

-- ---- reading

-- how a common is read under what the ones before it have taken
abbrev pub common_under : TableContext → Reader CommonRec
common_under context = common_at context.taken context.nprim

-- the context after a common
abbrev pub after_common : TableContext → CommonRec → TableContext
after_common context common = record { nprim = context.nprim; taken = with_common context.taken common }

-- the whole table
unfoldable pub commons_at : Reader (Table CommonRec)
commons_at = table_at common_under after_common table_start

-- ---- look-ups

-- the common of a name
abbrev pub common_named : Table CommonRec → List ℕ → Option (Placed CommonRec)
common_named commons name = find (has_the_name (λ common. common.name) name) commons.records

-- its permissions, or none where no common has the name
abbrev pub inherited_from : Table CommonRec → List ℕ → List PermissionRec
inherited_from commons name = unwrap_or (option_map (λ common. common.value.permissions) (common_named commons name)) []
