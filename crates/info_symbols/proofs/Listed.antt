-- The lines of records by their numbers.
use Rattle.std.proofs.Common.{◌≡◌, ℕ, ◌<◌, Bool, List, [], ◌∷◌, Option, Some, None, map, length, slice_get, refl, sym, ap, ◌∙◌, arith}
use Rattle.std.specs.Prelude.{true, false, nat_eq, IsTrue, ◌↔◌, option_map}
use Rattle.std.specs.List.{All, Contains, filter, list_any}
use Rattle.std.specs.Cmp.{nat_eq_equiv}
use Rattle.std.proofs.lemmas.Bool.Decides.{Decides-eqb}
use Rattle.std.proofs.lemmas.Map.Views.{list_any-from_Contains, Contains-from_any}
use Rattle.std.proofs.lemmas.List.{length-map}
use Rattle.std.proofs.lemmas.List.Elements.{All-filter, All-head, All-tail}
use Rattle.std.proofs.lemmas.Option.{get_or_from_slice_get}
use Rattle.pol_fields.specs.declared.TableKind.{TableKind}
use Rattle.pol_fields.specs.declared.TableKind.TheVariants.{Commons, Classes, Roles, Types, Users, Booleans, Levels, Categories}
use Rattle.pol_symtab.specs.Inner.Namings.{its_name}
use Rattle.pol_symtab.proofs.Searches.{place_of, not_true}
use Rattle.pol_symbols.specs.declared.symbols.Symbols.{Symbols}
use Rattle.pol_symbols.specs.PolicySymbols.{count_in, record_names}
use Rattle.pol_symbols.specs.Inner.TableNames.{names_in}
use Rattle.pol_symbols.proofs.TableNames.{count_by_names, record_names_by}
use Rattle.pol_file.specs.declared.parts.Parts.{Parts}
use Rattle.info_symbols.specs.declared.type_sets.TypeSet.{TypeSet}
use Rattle.info_symbols.specs.TypeListings.{type_line, type_lines, set_listing, set_numbers_listed}
use Rattle.info_lines.specs.NameOrder.{numbers_listed}
use Rattle.info_symbols.specs.SymbolLines.{symbol_lines, symbol_statements}
use Rattle.info_lines.specs.Inner.Listings.{HasLine, line_of}
use Rattle.info_symbols.specs.SymbolListings.{lines_at, symbol_listing}

-- ---- as many lines as records

statements : (symbols : Symbols) (table : TableKind) → length (symbol_statements symbols table) ≡ count_in symbols table
statements symbols Commons = length-map symbols.commons.records _
statements symbols Classes = length-map symbols.classes.records _
statements symbols Roles = length-map symbols.roles.records _
statements symbols Types = length-map symbols.types.records _
statements symbols Users = length-map symbols.users.records _
statements symbols Booleans = length-map symbols.booleans.records _
statements symbols Levels = length-map symbols.levels.records _
statements symbols Categories = length-map symbols.categories.records _

names : (symbols : Symbols) (table : TableKind) → length (record_names symbols table) ≡ count_in symbols table
names symbols table = ap length (sym (record_names_by symbols table)) ∙ length-map (names_in symbols table).records (λ symbol. its_name symbol.value) ∙ count_by_names symbols table

as_many : (symbols : Symbols) (table : TableKind) (expand : Bool) → length (symbol_lines symbols table expand) ≡ count_in symbols table
as_many symbols table true = statements symbols table
as_many symbols table false = names symbols table

-- ---- the line of a record

module _ (symbols : Symbols) (table : TableKind) (number : ℕ) where
  pub has_record : (expand : Bool) → HasLine (symbol_lines symbols table expand) number → number < count_in symbols table
  has_record expand has = omega (arith, has, as_many symbols table expand)

  pub has_statement : (expand : Bool) → expand ≡ true → HasLine (symbol_lines symbols table expand) number → HasLine (symbol_statements symbols table) number
  has_statement expand is has = omega (arith, has, as_many symbols table expand, statements symbols table)

  pub statement_at : (expand : Bool) → expand ≡ true → line_of (symbol_lines symbols table expand) number ≡ line_of (symbol_statements symbols table) number
  statement_at expand is = rw is refl

  pub name_at : (expand : Bool) (name : List ℕ) → expand ≡ false → slice_get (record_names symbols table) number ≡ Some name → line_of (symbol_lines symbols table expand) number ≡ name
  name_at expand name is at = rw is (get_or_from_slice_get (record_names symbols table) number name [] at)

-- ---- the lines that are listed

pub have_lines : (symbols : Symbols) (table : TableKind) (expand : Bool) (numbers : List ℕ) → All (λ n. n < count_in symbols table) numbers → All (HasLine (symbol_lines symbols table expand)) numbers
have_lines symbols table expand numbers within = rw (as_many symbols table expand) within

pub lines_are : (lines : List (List ℕ)) (numbers : List ℕ) → All (λ n. n < length lines) numbers → map (line_of lines) numbers ≡ lines_at lines numbers
lines_are lines [] within = refl
lines_are lines (n ∷ numbers) within =
    let at = place_of lines n (All-head (λ (n : ℕ). n < length lines) n numbers within) in
    rw (get_or_from_slice_get lines n at.0 [] at.1, at.1, lines_are lines numbers (All-tail (λ (n : ℕ). n < length lines) n numbers within)) refl

pub listed : (symbols : Symbols) (table : TableKind) (expand : Bool) (name : Option (List ℕ)) (numbers : List ℕ) → Some numbers ≡ numbers_listed symbols table name → All (λ n. n < count_in symbols table) numbers
    → Some (map (line_of (symbol_lines symbols table expand)) numbers) ≡ symbol_listing symbols table expand name
unfolding symbol_listing
listed symbols table expand name numbers are within = rw (← are) (ap Some (lines_are (symbol_lines symbols table expand) numbers (have_lines symbols table expand numbers within)))

pub none_listed : (symbols : Symbols) (table : TableKind) (expand : Bool) (name : Option (List ℕ)) → None ≡ numbers_listed symbols table name → None ≡ symbol_listing symbols table expand name
unfolding symbol_listing
none_listed symbols table expand name none = rw (← none) refl

-- ---- types

pub bit_found : (b : Bool) (bits : List ℕ) (bit : ℕ) → IsTrue b ↔ Contains bits bit → b ≡ list_any (nat_eq bit) bits
bit_found true bits bit h = sym (list_any-from_Contains nat_eq_equiv bit bits (h.0 refl))
bit_found false bits bit h = sym (not_true (list_any (nat_eq bit) bits) (λ e. let wrong : false ≡ true = h.1 (Contains-from_any (λ x y. (Decides-eqb x y).0) bit bits e) in cc))

pub kept_within : (p : ℕ → Bool) (count : ℕ) (numbers kept : List ℕ) → All (λ n. n < count) numbers → kept ≡ filter p numbers → All (λ n. n < count) kept
kept_within p count numbers kept within is = rw is (All-filter p (λ n. n < count) numbers within)

pub have_type_lines : (parts : Parts) (set : TypeSet) (expand : Bool) (numbers : List ℕ) → All (λ n. n < length parts.symbols.types.records) numbers → All (HasLine (type_lines parts set expand)) numbers
have_type_lines parts set expand numbers within = rw (length-map parts.symbols.types.records (λ t. type_line parts set expand t.value)) within

pub set_listed : (parts : Parts) (set : TypeSet) (expand : Bool) (name : Option (List ℕ)) (numbers : List ℕ) → Some numbers ≡ set_numbers_listed parts set name → All (λ n. n < length parts.symbols.types.records) numbers
    → Some (map (line_of (type_lines parts set expand)) numbers) ≡ set_listing parts set expand name
unfolding set_listing
set_listed parts set expand name numbers are within = rw (← are) (ap Some (lines_are (type_lines parts set expand) numbers (have_type_lines parts set expand numbers within)))

pub none_of_set : (parts : Parts) (set : TypeSet) (expand : Bool) (name : Option (List ℕ)) → None ≡ set_numbers_listed parts set name → None ≡ set_listing parts set expand name
unfolding set_listing
none_of_set parts set expand name none = rw (← none) refl

-- ---- the line of one number

pub one_line : (lines : List (List ℕ)) (number : ℕ) → number < length lines → Some (line_of lines number ∷ []) ≡ option_map (λ line. line ∷ []) (slice_get lines number)
one_line lines number within =
    let at = place_of lines number within in
    rw (at.1, get_or_from_slice_get lines number at.0 [] at.1) refl
