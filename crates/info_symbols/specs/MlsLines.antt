-- The statements of sensitivities and categories.
use Rattle.std.specs.Prelude.{ℕ, ◌++◌, List, codes}
use Rattle.pol_fields.specs.declared.TableKind.TheVariants.{Levels, Categories}
use Rattle.pol_mls.specs.declared.level_rec.LevelRec.{LevelRec}
use Rattle.pol_mls.specs.MlsTexts.{level_text}
use Rattle.pol_datums.specs.declared.SensitivityRec.{SensitivityRec}
use Rattle.pol_datums.specs.declared.CategoryRec.{CategoryRec}
use Rattle.pol_symbols.specs.declared.symbols.Symbols.{Symbols}
use Rattle.pol_symbols.specs.PolicySymbols.{name_in}
use Rattle.info_symbols.specs.Aliases.{alias_names, alias_text}

-- the level of a sensitivity with all categories that go with it
abbrev pub whole_level : SensitivityRec → LevelRec
whole_level level = record { sens = level.sens; categories = level.categories }

-- what is said of it behind the declaration
unfoldable pub level_part : Symbols → SensitivityRec → List ℕ
level_part symbols level = codes "; level " ++ level_text (name_in symbols) (whole_level level) ++ codes ";"

-- sensitivity NAME alias ALIASES; level LEVEL;
unfoldable pub sensitivity_statement : Symbols → SensitivityRec → List ℕ
sensitivity_statement symbols level =
    codes "sensitivity " ++ level.name ++ alias_text (alias_names symbols Levels level.sens) ++ level_part symbols level

-- category NAME alias ALIASES;
unfoldable pub category_statement : Symbols → CategoryRec → List ℕ
category_statement symbols category = codes "category " ++ category.name ++ alias_text (alias_names symbols Categories category.value) ++ codes ";"
