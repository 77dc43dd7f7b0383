-- References whose values are all declared, and records that declare a value.
use Rattle.std.proofs.Common.{inl, inr, ◌≡◌, ℕ, zero, suc, ◌+◌, ◌<◌, ◌≤◌, Bool, true, false, cond, ◌&&◌, ◌||◌, Option, Some, None, List, [], ◌∷◌, ◌++◌, refl, arith}
use Rattle.std.specs.Prelude.{nat_eq, is_some, map, option_map}
use Rattle.std.specs.List.{find, list_any, range_with_len, AllByRecursion}
use Rattle.std.proofs.lemmas.Bool.{cases_eq, or_left, or_right}
use Rattle.std.proofs.lemmas.List.Concat.{flat_map-cons}
use Rattle.pol_cursor.specs.References.{Placed, values_of, Reference, Named, dangling_of, references_in}
use Rattle.pol_symtab.specs.SymbolTables.{declares, primary_name}
use Rattle.pol_moved.proofs.ListFacts.{all-append}

-- ---- references

-- each value has a name
pub record AreNamed (named : Named) (references : List Reference) : Type 0 where
  pub each : AllByRecursion (λ r. is_some (named r.table r.value) ≡ true) references

pub none-dangling : (named : Named) (references : List Reference) → AreNamed named references → dangling_of named references ≡ None
none-dangling named references h = go references h.each
  where
    go : (references : List Reference) → AllByRecursion (λ r. is_some (named r.table r.value) ≡ true) references → dangling_of named references ≡ None
    go [] h = refl
    go (r ∷ rs) h = rw h.0 (go rs h.1)

pub nothing-named : {named : Named} → AreNamed named []
nothing-named = record { each = tt }

-- one more, before the others
pub named-first : {named : Named} {r : Reference} {rs : List Reference} → is_some (named r.table r.value) ≡ true → AreNamed named rs → AreNamed named (r ∷ rs)
named-first first others = record { each = (first, others.each) }

-- some, and then others
infixl 10 ◌⊕◌
pub ◌⊕◌ : {named : Named} {first second : List Reference} → AreNamed named first → AreNamed named second → AreNamed named (first ++ second)
◌⊕◌ {named} {first} {second} h k = record { each = all-append (λ r. is_some (named r.table r.value) ≡ true) first second h.each k.each }

-- the values of records, by what holds of them
pub each-named : {A : Type 0} (named : Named) (references : Placed A → List Reference) (P : A → Type 0) → ((place : ℕ) (x : A) → P x → AreNamed named (references (record { place = place; value = x }))) → (records : List (Placed A)) (xs : List A)
    → values_of records ≡ xs → AllByRecursion P xs → AreNamed named (references_in references records)
each-named {A} named references P each records xs are h = go records (rw are h)
  where
    go : (records : List (Placed A)) → AllByRecursion P (values_of records) → AreNamed named (references_in references records)
    go [] h = nothing-named
    go (r ∷ rs) h = rw flat_map-cons (each r.place r.value h.0 ⊕ go rs h.1)

-- the values of no records are named
pub none-named : {A : Type 0} (named : Named) (references : Placed A → List Reference) (records : List (Placed A)) → values_of records ≡ [] → AreNamed named (references_in references records)
none-named named references records are = each-named named references (λ x. ⊥) (λ place x never. absurd never) records [] are tt

-- ---- declared values

-- a record among these declares the value
abbrev pub declares_in : {A : Type 0} → (A → Bool) → (A → ℕ) → ℕ → List A → Bool
declares_in is_primary value_of value xs = list_any (λ x. is_primary x && nat_eq (value_of x) value) xs

found-or : {A : Type 0} (name_of : A → List ℕ) (b : Bool) (r : Placed A) (found : Option (Placed A)) (others : Bool) → (others ≡ true → is_some (option_map (λ r. name_of r.value) found) ≡ true) → (b || others) ≡ true
    → is_some (option_map (λ r. name_of r.value) (cond b (Some r) found)) ≡ true
found-or name_of true r found others h e = refl
found-or name_of false r found others h e = h e

-- A value that a record declares has a name.
pub declared-named : {A : Type 0} (name_of : A → List ℕ) (is_primary : A → Bool) (value_of : A → ℕ) (value : ℕ) (records : List (Placed A)) (xs : List A) → values_of records ≡ xs → declares_in is_primary value_of value xs ≡ true
    → is_some (primary_name name_of is_primary value_of records value) ≡ true
unfolding primary_name
declared-named {A} name_of is_primary value_of value records xs are e = go records (rw are e)
  where
    go : (records : List (Placed A)) → declares_in is_primary value_of value (values_of records) ≡ true → is_some (option_map (λ r. name_of r.value) (find (declares is_primary value_of value) records)) ≡ true
    go [] e = absurd cc
    go (r ∷ rs) e = found-or name_of (declares is_primary value_of value r) r (find (declares is_primary value_of value) rs) (declares_in is_primary value_of value (values_of rs)) (go rs) e

-- what is made of one of the numbers in a row passes the test
pub any-range : {A : Type 0} (test : A → Bool) (f : ℕ → A) (start count i : ℕ) → start ≤ i → i < start + count → test (f i) ≡ true → list_any test (map f (range_with_len start count)) ≡ true
any-range test f start zero i above below e = absurd (omega arith)
any-range test f start (suc count) i above below e = elim (cases_eq start i) [
  | inl same ↦ or_left (test (f start)) _ (rw same e)
  | inr other ↦ or_right (test (f start)) _ (any-range test f (start + 1) count i (omega (arith, above, other)) (omega (arith, below)) e)
]
