-- What is said of the record of a number.
use Rattle.std.proofs.Common.{◌≡◌, ℕ, ◌<◌, List, [], ◌∷◌, map, length, Some, option_map, get_or, slice_get, refl, ap, ◌∙◌}
use Rattle.std.specs.Prelude.{true, slice_index_or}
use Rattle.std.proofs.lemmas.List.{length-map}
use Rattle.std.proofs.lemmas.List.Elements.{All-head, All-cons, All-nil}
use Rattle.std.proofs.lemmas.Option.{get_or_from_slice_get, slice_get-map}
use Rattle.pol_fields.specs.declared.TableKind.{TableKind}
use Rattle.pol_symbols.specs.declared.Symbols.{Symbols}
use Rattle.pol_symbols.specs.PolicySymbols.{count_in}
use Rattle.pol_file.specs.declared.Parts.{Parts}
use Rattle.info_lines.specs.Inner.Listings.{HasLine}
use Rattle.info_symbols.specs.declared.TypeSet.{TypeSet}
use Rattle.info_symbols.specs.Aliases.{aliases_in}
use Rattle.info_symbols.specs.Inner.AliasLists.{AreAliases}
use Rattle.info_symbols.specs.SymbolLines.{symbol_lines}
use Rattle.info_symbols.specs.TypeListings.{type_line, type_lines}
use Rattle.info_symbols.proofs.Listed.{have_lines}

-- the element of a number is the one that is found there
pub found_at : {A : Type 0} (xs : List A) (n : ℕ) (x d : A) → slice_get xs n ≡ Some x → get_or xs n d ≡ x
found_at xs n x d at = get_or_from_slice_get xs n x d at

-- what a function says of the record is there too
pub mapped_at : {A B : Type 0} (f : A → B) (xs : List A) (n : ℕ) (x : A) (d : B) → slice_get xs n ≡ Some x → get_or (map f xs) n d ≡ f x
mapped_at f xs n x d at = get_or_from_slice_get (map f xs) n (f x) d (slice_get-map f xs n ∙ ap (option_map f) at)

-- a record has a statement
pub has_statement : (symbols : Symbols) (table : TableKind) (number : ℕ) (lines : List (List ℕ)) → lines ≡ symbol_lines symbols table true → number < count_in symbols table → HasLine lines number
has_statement symbols table number lines are within =
    rw are (All-head (HasLine (symbol_lines symbols table true)) number [] (have_lines symbols table true (number ∷ []) (All-cons (λ n. n < count_in symbols table) number [] within (All-nil (λ n. n < count_in symbols table)))))

-- a type has a line
pub has_type_line : (parts : Parts) (set : TypeSet) (number : ℕ) (lines : List (List ℕ)) → lines ≡ type_lines parts set true → number < length parts.symbols.types.records → HasLine lines number
has_type_line parts set number lines are within = rw (are, length-map parts.symbols.types.records (λ t. type_line parts set true t.value)) within

-- the list of a value has its aliases
pub aliases_are : (symbols : Symbols) (table : TableKind) (lists : List (List (List ℕ))) (value : ℕ) → AreAliases true symbols table lists → slice_index_or lists value [] ≡ aliases_in symbols table value
aliases_are symbols table lists value are = are.each refl value
