-- Parts of entries: sets of names, words, and levels, ranges and contexts by their forms.
use Rattle.std.specs.Prelude.{ℕ, Option, Some, None, List, [], ◌∷◌, map, unwrap_or}
use Rattle.pol_fields.specs.declared.TableKind.{TableKind}
use Rattle.pol_fields.specs.declared.TableKind.TheVariants.{Categories, Levels, Roles, Types, Users}
use Rattle.pol_bitmap.specs.Nodes.{bits_of}
use Rattle.pol_commons.specs.declared.permission_rec.PermissionRec.{PermissionRec}
use Rattle.pol_mls.specs.declared.level_rec.LevelRec.{LevelRec}
use Rattle.pol_mls.specs.declared.range_rec.RangeRec.{RangeRec}
use Rattle.pol_mls.specs.declared.context_rec.ContextRec.{ContextRec}
use Rattle.pol_mls.specs.ContextText.{context_text}
use Rattle.pol_mls.specs.MlsTexts.{level_text, low_level, range_text}
use Rattle.pol_symbols.specs.declared.symbols.Symbols.{Symbols}
use Rattle.pol_symbols.specs.PolicySymbols.{name_in}
use Rattle.pol_texts.specs.NameLists.{in_order}
use Rattle.info_lines.specs.NameSets.{names_of_bits}
use Rattle.diff_entries.specs.declared.Label.{Label}
use Rattle.diff_entries.specs.declared.Label.TheVariants.{Unnamed, Level, Range}
use Rattle.diff_entries.specs.declared.Part.{Part}
use Rattle.diff_entries.specs.declared.PartValue.TheVariants.{Names, Form}

-- a set of names, which rise
abbrev pub names_part : Label → List (List ℕ) → Part
names_part label names = record { label = label; value = Names names }

-- a word, whose form is itself
abbrev pub word_part : List ℕ → Part
word_part word = record { label = Unnamed; value = Form ((word ∷ []) ∷ []) word }

-- the names of permissions, in order
abbrev pub permission_names : List PermissionRec → List (List ℕ)
permission_names permissions = in_order (map (λ permission. permission.name) permissions)

-- the name of a value of a table, and the empty one where it has none
abbrev pub name_or_none : Symbols → TableKind → ℕ → List ℕ
name_or_none symbols table value = unwrap_or (name_in symbols table value) []

-- the form of a level: the name of its sensitivity, and behind it those of its declared categories
unfoldable pub level_form : Symbols → LevelRec → List (List ℕ)
level_form symbols level = name_or_none symbols Levels level.sens ∷ names_of_bits symbols Categories (bits_of level.categories)

-- a level, whatever the values of its categories
abbrev pub level_part : Symbols → LevelRec → Part
level_part symbols level = record { label = Level; value = Form (level_form symbols level ∷ []) (level_text (name_in symbols) level) }

-- the high level of a range, which is the low one where there is none
abbrev pub high_or : LevelRec → Option LevelRec → LevelRec
high_or low None = low
high_or low (Some high) = high

-- the form of a range: those of both its levels
unfoldable pub range_form : Symbols → RangeRec → List (List (List ℕ))
range_form symbols range = level_form symbols (low_level range) ∷ level_form symbols (high_or (low_level range) range.high) ∷ []

abbrev pub range_part : Symbols → RangeRec → Part
range_part symbols range = record { label = Range; value = Form (range_form symbols range) (range_text (name_in symbols) range) }

-- the names of a context
abbrev pub context_names : Symbols → ContextRec → List (List ℕ)
context_names symbols context = name_or_none symbols Users context.user ∷ name_or_none symbols Roles context.role ∷ name_or_none symbols Types context.type_value ∷ []

-- the form of a context: its names, and the form of its range
unfoldable pub context_form : Symbols → ContextRec → List (List (List ℕ))
context_form symbols context = context_names symbols context ∷ range_form symbols context.range

-- a context, whatever the values of its categories
abbrev pub context_part : Symbols → Label → ContextRec → Part
context_part symbols label context = record { label = label; value = Form (context_form symbols context) (context_text (name_in symbols) context) }
