-- The table of classes (libsepol's policydb_read), whose records are read under the table of commons.
use Rattle.std.specs.Prelude.{ℕ}
use Rattle.pol_cursor.specs.Outcome.{Reader}
use Rattle.pol_symtab.specs.SymbolTables.{Table, table_at, table_start}
use Rattle.pol_commons.specs.declared.common_rec.CommonRec.{CommonRec}
use Rattle.pol_classes.specs.declared.class_kind.ClassContext.{ClassContext}
use Rattle.pol_classes.specs.declared.class_rec.ClassRec.{ClassRec}
use Rattle.pol_classes.specs.declared.class_table.ByTypeSets.{ByTypeSets}
use Rattle.pol_classes.specs.declared.class_table.ByTypeSets.TheVariants.{Without, With}
use Rattle.pol_classes.specs.ClassRecord.{class_at, with_class}

-- what the first class of a table is read under
abbrev pub class_start : Table CommonRec → ℕ → ClassContext
class_start commons nprim = record { commons = commons; table = table_start nprim }

-- what a class is read under after another one
abbrev pub after_class : ClassContext → ClassRec → ClassContext
after_class context class = record context { table = record context.table { taken = with_class context.table.taken class } }

abbrev pub class_under : ℕ → ClassContext → Reader ClassRec
class_under version context = class_at version context.table.taken context.table.nprim context.commons

unfoldable pub class_table_at : ℕ → Table CommonRec → Reader (Table ClassRec)
class_table_at version commons = table_at (class_under version) after_class (class_start commons)

-- the table, whichever of its two forms it has
abbrev pub classes_of : ByTypeSets → Table ClassRec
classes_of (Without table) = table
classes_of (With table) = table
