-- The permissions of classes in the order of their names, as the texts of rules are made of them: what serves the code alone.
use Rattle.std.specs.Prelude.{◌≡◌, ℕ, List, [], Some, length, map, slice_get, slice_index_or}
use Rattle.std.specs.List.{filter}
use Rattle.pol_cursor.specs.References.{Placed}
use Rattle.pol_commons.specs.declared.PermissionRec.{PermissionRec}
use Rattle.pol_commons.specs.Permissions.{has_permission}
use Rattle.pol_classes.specs.declared.ClassRec.{ClassRec}
use Rattle.pol_symbols.specs.declared.Symbols.{Symbols}
use Rattle.pol_symbols.specs.PolicySymbols.{permissions_of}
use Rattle.pol_texts.specs.SetTexts.{set_text}
use Rattle.pol_read.specs.declared.rule.RulePart.{RulePart}
use Rattle.pol_read.specs.declared.rule.RulePart.TheVariants.{Perms}
use Rattle.info_lines.specs.PermissionSets.{permissions_text}

-- the names of those of these permissions whose bits are set, as a set in the order in which they stand
unfoldable pub shown_text : ℕ → List PermissionRec → List ℕ
shown_text mask sorted = set_text (map (λ permission. permission.name) (filter (has_permission mask) sorted))

-- The second show each mask as the first do in the order of names.
abbrev pub AreByName : List PermissionRec → List PermissionRec → Type 0
AreByName permissions sorted = (mask : ℕ) → shown_text mask sorted ≡ permissions_text mask permissions

-- The permissions that a rule gives are shown as the names of its mask; a rule of another part gives none.
abbrev pub ShowsPart : List PermissionRec → RulePart → List PermissionRec → Type 0
ShowsPart permissions (Perms mask) sorted = shown_text mask sorted ≡ permissions_text mask permissions
ShowsPart permissions other sorted = Unit {0}

-- one list for each class, in the order of the file
pub record AreOfClasses (symbols : Symbols) (lists : List (List PermissionRec)) : Type 0 where
  pub count : length lists ≡ length symbols.classes.records
  pub each : (i : ℕ) (class : Placed ClassRec) → slice_get symbols.classes.records i ≡ Some class → AreByName (permissions_of symbols class.value) (slice_index_or lists i [])
