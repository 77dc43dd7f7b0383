-- The entries of defaults of classes: whose user, role, type or range a new object has.
use Rattle.std.specs.Prelude.{ℕ, List, [], ◌∷◌, ◌++◌, map}
use Rattle.pol_fields.specs.declared.TableKind.TheVariants.{Classes}
use Rattle.pol_file.specs.declared.parts.Parts.{Parts}
use Rattle.info_lines.specs.NameOrder.{primary_numbers}
use Rattle.info_classes.specs.RecordOrder.{records_at}
use Rattle.info_classes.specs.declared.DefaultEntry.{DefaultEntry}
use Rattle.info_classes.specs.DefaultLines.{choice_words, default_line, default_of, default_word, entries_in}
use Rattle.diff_entries.specs.Entries.{Entry}
use Rattle.diff_parts.specs.EntryParts.{word_part}

-- what a default says: source, target, source low and so on
abbrev pub choice_of : DefaultEntry → List ℕ
choice_of default = choice_words default.kind (default_of default.kind default.class.value)

-- The key is the keyword, as it stands before the name of the class, and that name.
unfoldable pub default_entry : DefaultEntry → Entry
default_entry default = record {
  key = default_word default.kind ∷ default.class.value.name ∷ [];
  parts = word_part (choice_of default) ∷ [];
  statement = default_line default;
  head = default_word default.kind ++ default.class.value.name;
}

-- the entries of all defaults that classes have
unfoldable pub default_entries : Parts → List Entry
default_entries policy = map default_entry (entries_in (records_at policy.symbols.classes.records (primary_numbers policy.symbols Classes)))
