-- The values of the records of a table: a value with a name is one of them.
use Rattle.std.proofs.Common.{◌≡◌, inl, inr, ℕ, ◌+◌, ◌≤◌, Bool, true, false, Option, Some, None, List, [], ◌∷◌, ◌++◌, map, zero, suc, length, take, slice_get, refl, sym, ap, ◌∙◌, cond, add-one, arith}
use Rattle.std.specs.Prelude.{◌||◌, ◌&&◌, nat_eq, is_some, option_map}
use Rattle.std.specs.List.{find, filter, list_any}
use Rattle.std.proofs.lemmas.Bool.{eqb-true, eq-eqb}
use Rattle.std.proofs.lemmas.List.{take_all}
use Rattle.std.proofs.lemmas.List.Elements.{filter-append}
use Rattle.pol_cursor.specs.References.{Placed}
use Rattle.pol_fields.specs.declared.TableKind.{TableKind}
use Rattle.pol_fields.specs.declared.TableKind.TheVariants.{Commons, Classes, Roles, Types, Users, Booleans, Levels, Categories}
use Rattle.pol_symtab.specs.SymbolTables.{declares, primary_name}
use Rattle.pol_datums.specs.TypeRecord.{is_primary_type}
use Rattle.pol_datums.specs.Flags.{is_primary_flag}
use Rattle.pol_symbols.specs.PolicySymbols.{name_in, count_in, record_values}
use Rattle.pol_symbols.specs.declared.Symbols.{Symbols}
use Rattle.regex.specs.Patterns.{Re}
use Rattle.named_values.specs.Found.{has_pattern, of_name}
use Rattle.named_values.proofs.Tests.{same_tests, or_left, or_right, or_cases}

-- ---- a value that has a name

module _ {A : Type 0} (name_of : A → List ℕ) (is_primary : A → Bool) (value_of : A → ℕ) (value : ℕ) where
  mutual_step : (r : Placed A) (rs : List (Placed A)) (rest : Bool) → (is_some (option_map (λ (r : Placed A). name_of r.value) (find (declares is_primary value_of value) rs)) ≡ true → rest ≡ true)
      → (a b : Bool) → nat_eq (value_of r.value) value ≡ b → is_some (option_map (λ (r : Placed A). name_of r.value) (cond (a && b) (Some r) (find (declares is_primary value_of value) rs))) ≡ true
      → (nat_eq value (value_of r.value) || rest) ≡ true
  mutual_step r rs rest later true true is e = or_left _ rest (eq-eqb value (value_of r.value) (sym (eqb-true (value_of r.value) value is)))
  mutual_step r rs rest later true false is e = or_right _ rest (later e)
  mutual_step r rs rest later false b is e = or_right _ rest (later e)

  value_there : (records : List (Placed A)) → is_some (option_map (λ (r : Placed A). name_of r.value) (find (declares is_primary value_of value) records)) ≡ true → list_any (nat_eq value) (map (λ (r : Placed A). value_of r.value) records) ≡ true
  value_there [] e = absurd cc
  value_there (r ∷ rs) e = mutual_step r rs (list_any (nat_eq value) (map (λ (r : Placed A). value_of r.value) rs)) (value_there rs) (is_primary r.value) (nat_eq (value_of r.value) value) refl e

  named_there : (records : List (Placed A)) → is_some (primary_name name_of is_primary value_of records value) ≡ true → list_any (nat_eq value) (map (λ (r : Placed A). value_of r.value) records) ≡ true
  unfolding primary_name
  named_there records e = value_there records e

pub recorded : (symbols : Symbols) (table : TableKind) (value : ℕ) → is_some (name_in symbols table value) ≡ true → list_any (nat_eq value) (record_values symbols table) ≡ true
recorded symbols Commons value e = named_there (λ common. common.name) (λ common. true) (λ common. common.value) value symbols.commons.records e
recorded symbols Classes value e = named_there (λ class. class.name) (λ class. true) (λ class. class.value) value symbols.classes.records e
recorded symbols Roles value e = named_there (λ role. role.name) (λ role. true) (λ role. role.value) value symbols.roles.records e
recorded symbols Types value e = named_there (λ t. t.name) (λ t. is_primary_type t.properties) (λ t. t.value) value symbols.types.records e
recorded symbols Users value e = named_there (λ user. user.name) (λ user. true) (λ user. user.value) value symbols.users.records e
recorded symbols Booleans value e = named_there (λ boolean. boolean.name) (λ boolean. true) (λ boolean. boolean.value) value symbols.booleans.records e
recorded symbols Levels value e = named_there (λ level. level.name) (λ level. is_primary_flag level.isalias) (λ level. level.sens) value symbols.levels.records e
recorded symbols Categories value e = named_there (λ category. category.name) (λ category. is_primary_flag category.isalias) (λ category. category.value) value symbols.categories.records e

-- ---- those that a test keeps

kept_step : (p : ℕ → Bool) (value x : ℕ) (xs : List ℕ) (b : Bool) → p x ≡ b → (list_any (nat_eq value) (filter p xs) ≡ true → p value ≡ true) → list_any (nat_eq value) (cond b (x ∷ filter p xs) (filter p xs)) ≡ true → p value ≡ true
kept_step p value x xs true is later e = elim (or_cases (nat_eq value x) (list_any (nat_eq value) (filter p xs)) e) [
  | inl here ↦ rw (eqb-true value x here) is
  | inr rest ↦ later rest
]
kept_step p value x xs false is later e = later e

kept_passes : (p : ℕ → Bool) (value : ℕ) (xs : List ℕ) → list_any (nat_eq value) (filter p xs) ≡ true → p value ≡ true
kept_passes p value [] e = absurd cc
kept_passes p value (x ∷ xs) e = kept_step p value x xs (p x) refl (kept_passes p value xs) e

keeps_step : (p : ℕ → Bool) (value x : ℕ) (xs : List ℕ) → p value ≡ true → (list_any (nat_eq value) xs ≡ true → list_any (nat_eq value) (filter p xs) ≡ true) → (b : Bool) → p x ≡ b → (nat_eq value x || list_any (nat_eq value) xs) ≡ true → list_any (nat_eq value) (cond b (x ∷ filter p xs) (filter p xs)) ≡ true
keeps_step p value x xs passes later true is e = elim (or_cases (nat_eq value x) (list_any (nat_eq value) xs) e) [
  | inl here ↦ or_left (nat_eq value x) (list_any (nat_eq value) (filter p xs)) here
  | inr rest ↦ or_right (nat_eq value x) (list_any (nat_eq value) (filter p xs)) (later rest)
]
keeps_step p value x xs passes later false is e = elim (or_cases (nat_eq value x) (list_any (nat_eq value) xs) e) [
  | inl here ↦ let same : p value ≡ p x = ap p (eqb-true value x here) in absurd cc
  | inr rest ↦ later rest
]

passing_kept : (p : ℕ → Bool) (value : ℕ) (xs : List ℕ) → p value ≡ true → list_any (nat_eq value) xs ≡ true → list_any (nat_eq value) (filter p xs) ≡ true
passing_kept p value [] passes e = absurd cc
passing_kept p value (x ∷ xs) passes e = keeps_step p value x xs passes (passing_kept p value xs passes) (p x) refl e

named : (test : List ℕ → Bool) (name : Option (List ℕ)) → of_name test name ≡ true → is_some name ≡ true
named test None e = absurd cc
named test (Some name) e = refl

-- a value whose name passes a test is one of the values of records whose names do
pub kept_by_name : (symbols : Symbols) (table : TableKind) (test : List ℕ → Bool) (value : ℕ) → list_any (nat_eq value) (filter (λ value. of_name test (name_in symbols table value)) (record_values symbols table)) ≡ of_name test (name_in symbols table value)
kept_by_name symbols table test value =
    let p = λ (value : ℕ). of_name test (name_in symbols table value) in
    same_tests _ _ (kept_passes p value (record_values symbols table)) (λ e. passing_kept p value (record_values symbols table) e (recorded symbols table value (named test (name_in symbols table value) e)))

-- ---- record by record

length_map : {X Y : Type 0} (f : X → Y) (xs : List X) → length (map f xs) ≡ length xs
length_map f [] = refl
length_map f (x ∷ xs) = ap (λ n. suc n) (length_map f xs)

pub records_long : (symbols : Symbols) (table : TableKind) → length (record_values symbols table) ≡ count_in symbols table
records_long symbols Commons = length_map (λ common. common.value.value) symbols.commons.records
records_long symbols Classes = length_map (λ class. class.value.value) symbols.classes.records
records_long symbols Roles = length_map (λ role. role.value.value) symbols.roles.records
records_long symbols Types = length_map (λ t. t.value.value) symbols.types.records
records_long symbols Users = length_map (λ user. user.value.value) symbols.users.records
records_long symbols Booleans = length_map (λ boolean. boolean.value.value) symbols.booleans.records
records_long symbols Levels = length_map (λ level. level.value.sens) symbols.levels.records
records_long symbols Categories = length_map (λ category. category.value.value) symbols.categories.records

take_suc : {X : Type 0} (xs : List X) (n : ℕ) (x : X) → slice_get xs n ≡ Some x → take (suc n) xs ≡ take n xs ++ x ∷ []
take_suc [] n x e = absurd cc
take_suc (y ∷ ys) zero x e = let same : y ≡ x = cc in rw same refl
take_suc {X} (y ∷ ys) (suc n) x e = ap (λ (zs : List X). y ∷ zs) (take_suc ys n x e)

-- one record more
pub kept_at : (p : ℕ → Bool) (xs : List ℕ) (n x : ℕ) → slice_get xs n ≡ Some x → filter p (take (n + 1) xs) ≡ filter p (take n xs) ++ cond (p x) (x ∷ []) []
kept_at p xs n x at = rw (add-one, take_suc xs n x at) (filter-append p (take n xs) (x ∷ []))

pub kept_all : (p : ℕ → Bool) (xs : List ℕ) (n : ℕ) → length xs ≤ n → filter p (take n xs) ≡ filter p xs
kept_all p xs n past = ap (filter p) (take_all n xs past)

-- the values of one record more in whose names a pattern is found
pub record_more : (symbols : Symbols) (table : TableKind) (re pattern : Re) (n value : ℕ) (found : Bool) (name : Option (List ℕ)) (had has : List ℕ) → re ≡ pattern
    → had ≡ filter (λ value. of_name (has_pattern pattern) (name_in symbols table value)) (take n (record_values symbols table)) → slice_get (record_values symbols table) n ≡ Some value
    → found ≡ of_name (has_pattern re) name → name ≡ name_in symbols table value → has ≡ had ++ cond found (value ∷ []) []
    → has ≡ filter (λ value. of_name (has_pattern pattern) (name_in symbols table value)) (take (n + 1) (record_values symbols table))
record_more symbols table re pattern n value found name had has same so_far at is named added =
    let p = λ (value : ℕ). of_name (has_pattern pattern) (name_in symbols table value) in
    let passes : found ≡ p value = is ∙ ap (λ (re : Re). of_name (has_pattern re) name) same ∙ ap (of_name (has_pattern pattern)) named in
    added ∙ ap (λ (xs : List ℕ). xs ++ cond found (value ∷ []) []) so_far
    ∙ ap (λ (b : Bool). filter p (take n (record_values symbols table)) ++ cond b (value ∷ []) []) passes
    ∙ sym (kept_at p (record_values symbols table) n value at)

pub records_end : (symbols : Symbols) (table : TableKind) (p : ℕ → Bool) (n end : ℕ) → end ≡ count_in symbols table → end ≤ n → filter p (take n (record_values symbols table)) ≡ filter p (record_values symbols table)
records_end symbols table p n end is past = let long = records_long symbols table in kept_all p (record_values symbols table) n (omega (arith, is, past, long))
