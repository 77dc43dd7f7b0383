-- The entries of classes: each is compared by the set of its permissions, whichever of them its common has.
use Rattle.std.specs.Prelude.{ℕ, ◌==◌, List, [], ◌∷◌, ◌++◌, length, map, codes, if◌then◌else◌}
use Rattle.pol_fields.specs.declared.TableKind.TheVariants.{Classes}
use Rattle.pol_file.specs.declared.parts.Parts.{Parts}
use Rattle.pol_classes.specs.declared.ClassRec.{ClassRec}
use Rattle.pol_symbols.specs.declared.symbols.Symbols.{Symbols}
use Rattle.pol_symbols.specs.PolicySymbols.{permissions_of}
use Rattle.pol_texts.specs.SetTexts.{set_text}
use Rattle.info_lines.specs.NameOrder.{primary_numbers}
use Rattle.info_classes.specs.RecordOrder.{records_at}
use Rattle.diff_entries.specs.Entries.{Entry}
use Rattle.diff_entries.specs.declared.Label.TheVariants.{Unnamed}
use Rattle.diff_parts.specs.EntryParts.{names_part, permission_names}

-- a set of permissions behind the name of a class, where there are some
abbrev pub permissions_behind : List (List ℕ) → List ℕ
permissions_behind names = if length names == 0 then [] else codes " " ++ set_text names

-- class NAME PERMISSIONS, whose set has the permissions of its common
unfoldable pub class_entry : Symbols → ClassRec → Entry
class_entry symbols class = record {
  key = class.name ∷ [];
  parts = names_part Unnamed (permission_names (permissions_of symbols class)) ∷ [];
  statement = codes "class " ++ class.name ++ permissions_behind (permission_names (permissions_of symbols class));
  head = codes "class " ++ class.name;
}

-- the entries of all classes, in the order of their names
unfoldable pub class_entries : Parts → List Entry
class_entries policy = map (λ class. class_entry policy.symbols class.value) (records_at policy.symbols.classes.records (primary_numbers policy.symbols Classes))
