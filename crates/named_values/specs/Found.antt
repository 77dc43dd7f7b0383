-- The values in whose names a pattern is found, anywhere in the name: by the grammar and the matching of the crate `regex`.
use Rattle.std.specs.Prelude.{ℕ, Bool, false, ◌&&◌, Option, Some, None, List, is_some, chars}
use Rattle.std.specs.List.{list_all}
use Rattle.std.specs.Char.{is_ascii}
use Rattle.regex.specs.Patterns.{Re, find_str, default_config}
use Rattle.regex_syntax.specs.Brackets.{Nested}
use Rattle.regex_syntax.specs.Grammar.{Names, read}
use Rattle.pol_fields.specs.declared.TableKind.{TableKind}
use Rattle.pol_symbols.specs.PolicySymbols.{name_in}
use Rattle.pol_symbols.specs.declared.Symbols.{Symbols}

-- A pattern is found in a name. Names are ASCII texts, as each of an accepted policy is, and a name that is none has no pattern.
abbrev pub has_pattern : Re → List ℕ → Bool
has_pattern pattern name = list_all is_ascii name && is_some (find_str pattern name 0)

-- the pattern that the grammar read, where it read one
abbrev pub has_read : Option (Nested Re × Names) → List ℕ → Bool
has_read None name = false
has_read (Some pattern) name = has_pattern pattern.0.value name

-- the pattern of a text is found in a name
unfoldable pub is_found_in : List ℕ → List ℕ → Bool
is_found_in text name = has_read (read default_config (chars text)) name

-- a test of a name, where there is one
abbrev pub of_name : (List ℕ → Bool) → Option (List ℕ) → Bool
of_name test None = false
of_name test (Some name) = test name

-- the pattern of a text is found in the name of a value
abbrev pub is_found : Symbols → TableKind → List ℕ → ℕ → Bool
is_found symbols table text value = of_name (is_found_in text) (name_in symbols table value)
