-- A pattern that was built from a text is found where the pattern of the text is.
use Rattle.std.proofs.Common.{◌≡◌, ℕ, ◌<◌, ◌≤◌, Bool, true, false, Option, Some, None, IsSomeAnd, Result, Ok, Err, IfOk, List, [], ◌∷◌, All, length, refl, ap, ◌∙◌, arith}
use Rattle.std.specs.Prelude.{◌↔◌, ◌&&◌, is_some, option_map, chars, nat_lt, nat_eq, string_bytes, Contains}
use Rattle.std.specs.List.{list_all, list_any, filter}
use Rattle.std.specs.Char.{is_ascii}
use Rattle.std.specs.Str.{IsUtf8}
use Rattle.std.proofs.lemmas.Bool.{ltb-true}
use Rattle.std.proofs.lemmas.List.Elements.{All-cons, All-nil}
use Rattle.std.proofs.lemmas.Str.{IsUtf8-from_ascii}
use Rattle.std.proofs.lemmas.Str.Ascii.{IsAscii-from_all}
use Rattle.regex.specs.Patterns.{Re, find_str, default_config, Reads, SameCaptures}
use Rattle.regex.specs.Names.{names_of}
use Rattle.regex.specs.Sources.{IsRead}
use Rattle.regex.specs.Strings.{regex_pattern}
use Rattle.regex.specs.declared.string.regex.Regex.{Regex}
use Rattle.regex_syntax.specs.Brackets.{Nested}
use Rattle.regex_syntax.specs.Grammar.{Names, read}
use Rattle.regex_syntax.proofs.CapturesLemmas.{find_str_alike, spans}
use Rattle.se_outside.specs.Patterns.{IsBuiltFrom}
use Rattle.pol_fields.specs.declared.TableKind.{TableKind}
use Rattle.pol_bitmap.specs.declared.Node.{Node}
use Rattle.pol_bitmap.specs.Nodes.{bits_of, has_bit}
use Rattle.pol_symbols.specs.PolicySymbols.{name_in, record_values}
use Rattle.pol_symbols.specs.declared.Symbols.{Symbols}
use Rattle.named_values.proofs.Records.{kept_by_name}
use Rattle.named_values.proofs.Tests.{set_tests}
use Rattle.named_values.specs.Found.{has_pattern, has_read, is_found_in, of_name}

-- ---- names

and_first : (a b : Bool) → (a && b) ≡ true → a ≡ true
and_first true b e = refl
and_first false b e = absurd cc

and_second : (a b : Bool) → (a && b) ≡ true → b ≡ true
and_second true b e = e
and_second false b e = absurd cc

ascii_bytes : (name : List ℕ) → list_all is_ascii name ≡ true → All (λ b. b < 128) name
ascii_bytes [] e = All-nil (λ (b : ℕ). b < 128)
ascii_bytes (b ∷ bs) e = All-cons (λ (b : ℕ). b < 128) b bs (ltb-true b 128 (and_first (nat_lt b 128) (list_all is_ascii bs) e)) (ascii_bytes bs (and_second (nat_lt b 128) (list_all is_ascii bs) e))

pub ascii_text : (name : List ℕ) → list_all is_ascii name ≡ true → IsUtf8 name
ascii_text name e = IsUtf8-from_ascii name (IsAscii-from_all name (ascii_bytes name e))

fits : (name : List ℕ) → list_all is_ascii name ≡ true → All (λ b. b < 256) name
fits name e = λ k d lt. let h = ascii_bytes name e k d lt in omega (arith, h)

-- ---- patterns

some_both : {A B : Type 0} (f : A → B) (a b : Option A) → option_map f a ≡ option_map f b → is_some a ≡ is_some b
some_both f None None e = refl
some_both f None (Some y) e = absurd cc
some_both f (Some x) None e = absurd cc
some_both f (Some x) (Some y) e = refl

same_found : (a b : Re) (name : List ℕ) → SameCaptures a b → (c : Bool) → list_all is_ascii name ≡ c → (c && is_some (find_str a name 0)) ≡ (c && is_some (find_str b name 0))
same_found a b name same true ascii = some_both spans (find_str a name 0) (find_str b name 0) (find_str_alike a b same name (fits name ascii) 0)
same_found a b name same false ascii = refl

same_pattern : (a b : Re) (name : List ℕ) → SameCaptures a b → has_pattern a name ≡ has_pattern b name
same_pattern a b name same = same_found a b name same (list_all is_ascii name) refl

same_read : (a : Re) (limit count : ℕ) (names : Names) (o : Option (Nested Re × Names)) → IsSomeAnd o (λ x. (x.0.depth ≤ limit) × SameCaptures a x.0.value × (names ≡ x.1) × (count ≤ length names)) → (name : List ℕ) → has_pattern a name ≡ has_read o name
same_read a limit count names None q name = absurd q
same_read a limit count names (Some x) q name = same_pattern a x.0.value name q.1

module _ (text : List ℕ) (r : Regex) (built : IsBuiltFrom text r) where
  is_config : r.pattern.config ≡ default_config
  is_config = built.config

  is_source : string_bytes r.pattern.source ≡ text
  is_source = built.source

  is_read : IsRead r.pattern
  is_read = built.read

  reads : Reads default_config text r.pattern.program.hir (names_of r.pattern.names.items)
  reads = rw (is_source, is_config) at is_read

  pub found_in_name : (name : List ℕ) → has_pattern (regex_pattern r) name ≡ is_found_in text name
  unfolding is_found_in Reads
  found_in_name name = same_read (regex_pattern r) default_config.nest_limit _ _ (read default_config (chars text)) reads name

  pub found_by_name : (name : Option (List ℕ)) → of_name (has_pattern (regex_pattern r)) name ≡ of_name (is_found_in text) name
  found_by_name None = refl
  found_by_name (Some name) = found_in_name name

-- a set of the values in whose names a built pattern is found
pub set_found : {E : Type 0} (symbols : Symbols) (table : TableKind) (pattern : Regex) (values : List ℕ) (r : Result (List Node) E)
    → values ≡ filter (λ value. of_name (has_pattern (regex_pattern pattern)) (name_in symbols table value)) (record_values symbols table)
    → IfOk r (λ set. (bit : ℕ) → Contains (bits_of set) bit ↔ Contains values bit)
    → IfOk r (λ set. (text : List ℕ) → IsBuiltFrom text pattern → (value : ℕ) → has_bit set value ≡ of_name (is_found_in text) (name_in symbols table value))
set_found symbols table pattern values (Ok set) is h = λ text built value.
    set_tests set values h value ∙ ap (λ (xs : List ℕ). list_any (nat_eq value) xs) is ∙ kept_by_name symbols table (has_pattern (regex_pattern pattern)) value ∙ found_by_name text pattern built (name_in symbols table value)
set_found symbols table pattern values (Err e) is h = tt
