-- The entries of paths of file systems without labels: the file system, the path and the class are the key, and the context is
-- compared. Of several of one key the first in the file counts, the file systems one behind the other.
use Rattle.std.specs.Prelude.{ℕ, ◌==◌, List, [], ◌∷◌, ◌++◌, map, codes, if◌then◌else◌}
use Rattle.pol_fields.specs.declared.TableKind.TheVariants.{Classes}
use Rattle.pol_file.specs.declared.parts.Parts.{Parts}
use Rattle.pol_symbols.specs.declared.symbols.Symbols.{Symbols}
use Rattle.pol_symbols.specs.PolicySymbols.{name_in}
use Rattle.info_contexts.specs.GenfsLines as genfs
use Rattle.info_contexts.specs.GenfsLines.{entries_in, genfs_line, place_text}
use Rattle.diff_entries.specs.Entries.{Entry}
use Rattle.diff_entries.specs.declared.Label.TheVariants.{Unnamed}
use Rattle.diff_parts.specs.EntryParts.{context_part, name_or_none}

-- the name of a class, and nothing for 0, which stands for every class
abbrev pub class_name : Symbols → ℕ → List ℕ
class_name symbols class = if class == 0 then [] else name_or_none symbols Classes class

-- the class behind the path, where there is one
abbrev pub class_behind : Symbols → ℕ → List ℕ
class_behind symbols class = if class == 0 then [] else codes " " ++ name_or_none symbols Classes class

unfoldable pub genfs_entry : Symbols → genfs.Entry → Entry
genfs_entry symbols place = record {
  key = place.fstype ∷ place.path.path ∷ class_name symbols place.path.class ∷ [];
  parts = context_part symbols Unnamed place.path.context ∷ [];
  statement = genfs_line (name_in symbols) place;
  head = codes "genfscon " ++ place_text place.fstype place.path.path ++ class_behind symbols place.path.class;
}

-- the entries of all paths, in file order
unfoldable pub genfs_entries : Parts → List Entry
genfs_entries policy = map (genfs_entry policy.symbols) (entries_in policy.labels.genfs)
