-- The entries of the properties of a policy: the order of its sensitivities, how it treats unknown classes, and its version.
use Rattle.std.specs.Prelude.{ℕ, ◌/◌, ◌%◌, ◌==◌, List, [], ◌∷◌, ◌++◌, map, codes, decimal, if◌then◌else◌}
use Rattle.std.specs.List.{filter_map, range_with_len}
use Rattle.pol_fields.specs.declared.TableKind.TheVariants.{Levels}
use Rattle.pol_file.specs.declared.parts.Parts.{Parts}
use Rattle.pol_symbols.specs.declared.symbols.Symbols.{Symbols}
use Rattle.pol_symbols.specs.PolicySymbols.{name_in, prims_in}
use Rattle.pol_texts.specs.SetTexts.{listed}
use Rattle.diff_entries.specs.Entries.{Entry}
use Rattle.diff_parts.specs.EntryParts.{word_part}

-- a property: what it is called, and the text that says it
pub record PropertyText : Type 0 where
  pub name : List ℕ
  pub text : List ℕ

-- names with a space between each two
abbrev pub spaced : List (List ℕ) → List ℕ
spaced [] = []
spaced (name ∷ names) = name ++ listed names

-- the declared sensitivities, in the order of their values: a higher one dominates those before it
unfoldable pub sensitivity_names : Symbols → List (List ℕ)
sensitivity_names symbols = filter_map (name_in symbols Levels) (range_with_len 1 (prims_in symbols Levels))

-- what it does with classes and permissions that it does not know (libsepol's handle_unknown)
abbrev pub unknown_word : ℕ → List ℕ
unknown_word config = if config / 2 % 2 == 1 then codes "reject" else if config / 4 % 2 == 1 then codes "allow" else codes "deny"

-- all three, which each policy has
abbrev pub properties_of : Parts → List PropertyText
properties_of policy =
    record { name = codes "dominance"; text = spaced (sensitivity_names policy.symbols) }
    ∷ record { name = codes "handle_unknown"; text = unknown_word policy.front.header.config }
    ∷ record { name = codes "version"; text = decimal policy.front.header.version }
    ∷ []

-- The statement is none that is ever written: no policy has a property alone.
unfoldable pub property_entry : PropertyText → Entry
property_entry property = record {
  key = property.name ∷ [];
  parts = word_part property.text ∷ [];
  statement = codes "property " ++ property.name;
  head = codes "property " ++ property.name;
}

unfoldable pub property_entries : Parts → List Entry
property_entries policy = map property_entry (properties_of policy)
