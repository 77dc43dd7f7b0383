-- Lines as the code holds them.
use Rattle.std.specs.Prelude.{◌≡◌, [], ◌∷◌, Result, Ok, Err}
use Rattle.text_rows.specs.declared.Row.{Row as RowCode}
use Rattle.perm_map.specs.declared.lines.ClassLine.{ClassLine as ClassLineCode}
use Rattle.perm_map.specs.declared.lines.PermissionLine.{PermissionLine as PermissionLineCode}
use Rattle.perm_map.specs.declared.map_fault.MapCause.TheVariants.{Missing}
use Rattle.perm_map.specs.declared.map_fault.MapFault.{MapFault}
use Rattle.text_rows.specs.TextLines.{Rest}
use Rattle.text_rows.specs.RowViews.{row_of}
use Rattle.perm_map.specs.MapFields.{ClassLine, PermissionLine}
use Rattle.perm_map.specs.PermissionMap.{fault_at}

abbrev pub class_line_of : ClassLineCode → ClassLine
class_line_of line = record { name = line.name.now; count = line.count }

abbrev pub permission_line_of : PermissionLineCode → PermissionLine
permission_line_of line = record { name = line.name.now; direction = line.direction; weight = line.weight }

-- the next line, or the fault that there is none
abbrev pub RowComes : Rest → Rest → Result RowCode MapFault → Type 0
RowComes old new (Ok row) = (old.rows ≡ row_of row ∷ new.rows) × (new.past ≡ old.past)
RowComes old new (Err fault) = (old.rows ≡ []) × (fault ≡ fault_at old.past Missing)
