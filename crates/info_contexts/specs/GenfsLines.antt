-- The lines of the contexts of file systems without labels (SETools' genfscon statements).
use Rattle.std.specs.Prelude.{ℕ, ◌==◌, Option, List, [], ◌++◌, map, codes, if◌then◌else◌}
use Rattle.std.specs.List.{flat_map}
use Rattle.pol_fields.specs.declared.table_kind.TableKind.TheVariants.{Classes}
use Rattle.pol_cursor.specs.References.{Named, Placed, name_of}
use Rattle.pol_symbols.specs.declared.symbols.Symbols.{Symbols}
use Rattle.pol_symbols.specs.PolicySymbols.{name_in}
use Rattle.pol_texts.specs.NameTexts.{name_text}
use Rattle.pol_mls.specs.ContextText.{context_text}
use Rattle.pol_genfs.specs.declared.genfs_rec.GenfsPathRec.{GenfsPathRec}
use Rattle.pol_genfs.specs.declared.genfs_rec.GenfsRec.{GenfsRec}
use Rattle.info_contexts.specs.NamedEntries.{of_name}

-- a path of a file system, with the file system's name
pub record Entry : Type 0 where
  pub fstype : List ℕ
  pub path : GenfsPathRec

-- the paths of a file system
abbrev pub entries_of : GenfsRec → List Entry
entries_of genfs = map (λ path. record { fstype = genfs.fstype; path = path }) genfs.paths

-- the paths of all of them, in file order
abbrev pub entries_in : List (Placed GenfsRec) → List Entry
entries_in systems = flat_map (λ genfs. entries_of genfs.value) systems

-- the name of a file system and a path
unfoldable pub place_text : List ℕ → List ℕ → List ℕ
place_text fstype path = name_text fstype ++ codes " " ++ name_text path

-- the name of a class and a space, and nothing for the class 0, which stands for every class
unfoldable pub class_word : Named → ℕ → List ℕ
class_word named class = if class == 0 then [] else name_of named Classes class ++ codes " "

-- genfscon NAME PATH CONTEXT, with the class before the context
unfoldable pub genfs_line : Named → Entry → List ℕ
genfs_line named entry =
    codes "genfscon " ++ place_text entry.fstype entry.path.path ++ codes " " ++ class_word named entry.path.class ++ context_text named entry.path.context

-- one for each path
abbrev pub genfs_listing : Symbols → List Entry → List (List ℕ)
genfs_listing symbols entries = map (genfs_line (name_in symbols)) entries

-- one for each path of each of the file systems of the given name, in file order
abbrev pub genfs_listing_of : Symbols → Option (List ℕ) → List (Placed GenfsRec) → List (List ℕ)
genfs_listing_of symbols name systems = genfs_listing symbols (of_name (λ entry. entry.fstype) name (entries_in systems))
