-- The entries of levels: which categories go with a sensitivity.
use Rattle.std.specs.Prelude.{List, [], ◌∷◌, ◌++◌, map, codes}
use Rattle.pol_fields.specs.declared.TableKind.TheVariants.{Categories, Levels}
use Rattle.pol_bitmap.specs.Nodes.{bits_of}
use Rattle.pol_file.specs.declared.parts.Parts.{Parts}
use Rattle.pol_mls.specs.declared.level_rec.LevelRec.{LevelRec}
use Rattle.pol_mls.specs.MlsTexts.{level_text}
use Rattle.pol_datums.specs.declared.SensitivityRec.{SensitivityRec}
use Rattle.pol_symbols.specs.declared.symbols.Symbols.{Symbols}
use Rattle.pol_symbols.specs.PolicySymbols.{name_in}
use Rattle.info_lines.specs.NameOrder.{primary_numbers}
use Rattle.info_lines.specs.NameSets.{names_of_bits}
use Rattle.info_classes.specs.RecordOrder.{records_at}
use Rattle.diff_entries.specs.Entries.{Entry}
use Rattle.diff_entries.specs.declared.Label.TheVariants.{Unnamed}
use Rattle.diff_parts.specs.EntryParts.{names_part}

-- the level of a sensitivity with all categories that go with it
abbrev pub whole_level : SensitivityRec → LevelRec
whole_level level = record { sens = level.sens; categories = level.categories }

-- level LEVEL; with the set of its declared categories
unfoldable pub level_entry : Symbols → SensitivityRec → Entry
level_entry symbols level = record {
  key = level.name ∷ [];
  parts = names_part Unnamed (names_of_bits symbols Categories (bits_of level.categories)) ∷ [];
  statement = codes "level " ++ level_text (name_in symbols) (whole_level level) ++ codes ";";
  head = codes "level " ++ level.name;
}

-- the entries of the levels of all sensitivities, in the order of their names
unfoldable pub level_entries : Parts → List Entry
level_entries policy = map (λ level. level_entry policy.symbols level.value) (records_at policy.symbols.levels.records (primary_numbers policy.symbols Levels))
