-- The lines of how the files of file systems get their contexts (SETools' fs_use statements).
use Rattle.std.specs.Prelude.{ℕ, Option, List, ◌++◌, map, codes}
use Rattle.pol_cursor.specs.References.{Named, Placed}
use Rattle.pol_symbols.specs.declared.symbols.Symbols.{Symbols}
use Rattle.pol_symbols.specs.PolicySymbols.{name_in}
use Rattle.pol_texts.specs.NameTexts.{name_text}
use Rattle.pol_texts.specs.NumberNames.{behaviour_word}
use Rattle.pol_mls.specs.ContextText.{context_text}
use Rattle.pol_contexts.specs.declared.fsuse_rec.FsUseRec.{FsUseRec}
use Rattle.info_contexts.specs.NamedEntries.{of_name}

-- fs_use_xattr NAME CONTEXT; where the first word names the behaviour
unfoldable pub fsuse_line : Named → FsUseRec → List ℕ
fsuse_line named entry =
    behaviour_word entry.behaviour ++ codes " " ++ name_text entry.name ++ codes " " ++ context_text named entry.context ++ codes ";"

-- one for each entry, in file order
abbrev pub fsuse_listing : Symbols → List (Placed FsUseRec) → List (List ℕ)
fsuse_listing symbols entries = map (λ entry. fsuse_line (name_in symbols) entry.value) entries

-- the lines of the file systems of the given name
abbrev pub fsuse_listing_of : Symbols → Option (List ℕ) → List (Placed FsUseRec) → List (List ℕ)
fsuse_listing_of symbols name entries = fsuse_listing symbols (of_name (λ entry. entry.value.name) name entries)
