-- Types that words name.
use Rattle.std.specs.Prelude.{ℕ, Bool, List, ◌∷◌, ◌++◌, map, option_map, Option, Some, None, if◌then◌else◌}
use Rattle.std.specs.Option.{option_to_list}
use Rattle.pol_fields.specs.declared.TableKind.TheVariants.{Types}
use Rattle.pol_file.specs.declared.Parts.{Parts}
use Rattle.pol_symbols.specs.PolicySymbols.{value_in}
use Rattle.pol_symbols.specs.declared.Symbols.{Symbols}
use Rattle.pol_expand.specs.PlainTypes.{is_type_value}
use Rattle.named_values.specs.Named.{is_named}
use Rattle.se_words.specs.Options.{Named}
use Rattle.se_status.specs.LeastWord.{least_number}
use Rattle.se_walks.specs.declared.graph_items.Ends.{Ends}

-- a value that is a type's, and no attribute's
abbrev pub plain_value : Parts → Option ℕ → Option ℕ
plain_value policy None = None
plain_value policy (Some value) = if is_type_value policy value then Some value else None

-- the value of the type that has a name or an alias; an attribute's name names none
unfoldable pub type_named : Parts → List ℕ → Option ℕ
type_named policy name = plain_value policy (value_in policy.symbols Types name)

-- a target that may be asked for: none, or the value that its word names; nothing where that names no type
abbrev pub known : Option (Option ℕ) → Option (Option ℕ)
known None = Some None
known (Some None) = None
known (Some (Some value)) = Some (Some value)

abbrev pub target_named : Parts → Option Named → Option (Option ℕ)
target_named policy target = known (option_map (λ named. type_named policy named.text) target)

-- the ends that are asked for, where each word names a type
abbrev pub ends_if : Option ℕ → Bool → Option ℕ → Option (Option ℕ) → Option Ends
ends_if all reverse (Some source) (Some target) = Some (record { source = source; target = target; all = all; reverse = reverse })
ends_if all reverse source target = None

abbrev pub ends_named : Parts → Named → Option Named → Option ℕ → Bool → Option Ends
ends_named policy source target all reverse = ends_if all reverse (type_named policy source.text) (target_named policy target)

-- the number of a word, unless it names a type
abbrev pub word_unless : Option ℕ → ℕ → Option ℕ
word_unless None word = Some word
word_unless (Some value) word = None

abbrev pub unknown_word : Parts → Named → Option ℕ
unknown_word policy named = word_unless (type_named policy named.text) named.word

-- the least number of a word that names no type
abbrev pub first_unknown : Parts → List Named → Option ℕ
first_unknown policy names = least_number (unknown_word policy) names

-- the words that name types: a source, a target, and types that are excluded
abbrev pub type_words : Named → Option Named → List Named → List Named
type_words source target excluded = source ∷ (option_to_list target ++ excluded)

-- a type is one of those that are excluded
abbrev pub is_excluded : Symbols → List Named → ℕ → Bool
is_excluded symbols excluded type = is_named symbols Types (map (λ named. named.text) excluded) type
