-- The lines of the default rules of classes, as seinfo of SETools prints them: whose user, role, type and range a new object has.
use Rattle.std.specs.Prelude.{ℕ, ◌==◌, not, Bool, if◌then◌else◌, Option, option_map, List, [], ◌∷◌, ◌++◌, map, codes}
use Rattle.std.specs.List.{filter, flat_map}
use Rattle.pol_cursor.specs.References.{Placed}
use Rattle.pol_classes.specs.declared.ClassRec.{ClassRec}
use Rattle.pol_symbols.specs.declared.symbols.Symbols.{Symbols}
use Rattle.info_classes.specs.declared.default_entry.DefaultKind.{DefaultKind}
use Rattle.info_classes.specs.declared.default_entry.DefaultKind.TheVariants.{OfUser, OfRole, OfType, OfRange}
use Rattle.info_classes.specs.declared.default_entry.DefaultEntry.{DefaultEntry}
use Rattle.info_classes.specs.RecordOrder.{classes_listed}

-- ---- a line

-- the default of a kind, and 0 where the class has none
abbrev pub default_of : DefaultKind → ClassRec → ℕ
default_of OfUser class = class.default_user
default_of OfRole class = class.default_role
default_of OfType class = class.default_type
default_of OfRange class = class.default_range

abbrev pub default_word : DefaultKind → List ℕ
default_word OfUser = codes "default_user "
default_word OfRole = codes "default_role "
default_word OfType = codes "default_type "
default_word OfRange = codes "default_range "

-- 1 is the source, 2 the target (libsepol's DEFAULT_SOURCE and DEFAULT_TARGET)
abbrev pub end_word : ℕ → List ℕ
end_word default = if default == 1 then codes "source" else codes "target"

-- 1 to 7, in this order (libsepol's DEFAULT_SOURCE_LOW to DEFAULT_GLBLUB)
abbrev pub range_words : ℕ → List ℕ
range_words default =
    if default == 1 then codes "source low"
    else if default == 2 then codes "source high"
    else if default == 3 then codes "source low-high"
    else if default == 4 then codes "target low"
    else if default == 5 then codes "target high"
    else if default == 6 then codes "target low-high"
    else codes "glblub"

abbrev pub choice_words : DefaultKind → ℕ → List ℕ
choice_words OfUser default = end_word default
choice_words OfRole default = end_word default
choice_words OfType default = end_word default
choice_words OfRange default = range_words default

-- default_user CLASS source; and the like
unfoldable pub default_line : DefaultEntry → List ℕ
default_line entry =
    default_word entry.kind ++ entry.class.value.name ++ codes " " ++ choice_words entry.kind (default_of entry.kind entry.class.value) ++ codes ";"

-- ---- the listings

abbrev pub has_default : ClassRec → DefaultKind → Bool
has_default class kind = not (default_of kind class == 0)

-- the defaults that a class has: user, role, type, range
abbrev pub entries_of : Placed ClassRec → List DefaultEntry
entries_of class = map (λ kind. record { class = class; kind = kind }) (filter (has_default class.value) (OfUser ∷ OfRole ∷ OfType ∷ OfRange ∷ []))

abbrev pub entries_in : List (Placed ClassRec) → List DefaultEntry
entries_in classes = flat_map entries_of classes

-- the defaults of all classes in the order of the classes' names, or of the class that a name finds, if it finds one
unfoldable pub default_listing : Symbols → Option (List ℕ) → Option (List (List ℕ))
default_listing symbols name = option_map (λ classes. map default_line (entries_in classes)) (classes_listed symbols name)
