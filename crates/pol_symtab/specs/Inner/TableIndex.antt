-- What the indexes of a symbol table hold: where the record of a value or a name stands in the list, and the ranks of the names.
use Rattle.std.specs.Prelude.{◌≡◌, ℕ, ◌<◌, ◌≤◌, ◌+◌, ◌&&◌, ◌∷◌, nat_eq, Bool, true, false, Option, Some, None, List, length, map, slice_get, slice_index, slice_index_or, if◌then◌else◌, []}
use Rattle.pol_cursor.specs.References.{Placed}
use Rattle.std.specs.Option.{option_and_then}
use Rattle.std.specs.Str.{bytes_eq}
use Rattle.std.specs.List.{count_by}
use Rattle.std.specs.List.Sorted.{IsPermutation}
use Rattle.pol_symtab.specs.declared.name_order.Entry.{Entry}
use Rattle.pol_symtab.specs.SymbolTables.{primary_index, is_below, names_below, rank_of}

-- the names of the records, and the one of that number
abbrev pub names_of : {A : Type 0} → (A → List ℕ) → List (Placed A) → List (List ℕ)
names_of name_of records = map (λ r. name_of r.value) records

abbrev pub name_at : List (List ℕ) → ℕ → List ℕ
name_at names i = slice_index_or names i []

abbrev pub joined : Option (Option ℕ) → Option ℕ
joined None = None
joined (Some entry) = entry

-- where the index by value leads
abbrev pub entry_of : List (Option ℕ) → ℕ → Option ℕ
entry_of by_value value = joined (slice_get by_value value)

-- no two records have the same name
abbrev pub HaveDistinctNames : {A : Type 0} → (A → List ℕ) → List (Placed A) → Type 0
HaveDistinctNames {A} name_of records = (i j : ℕ) (r s : Placed A) → i < j → slice_get records i ≡ Some r → slice_get records j ≡ Some s → bytes_eq (name_of r.value) (name_of s.value) ≡ false

-- no two primary records declare the same value, and none a value above nprim
pub record HaveDistinctValues {A : Type 0} (is_primary : A → Bool) (value_of : A → ℕ) (nprim : ℕ) (records : List (Placed A)) : Type 0 where
  pub within : (i : ℕ) (r : Placed A) → slice_get records i ≡ Some r → is_primary r.value ≡ true → value_of r.value ≤ nprim
  pub distinct : (i j : ℕ) (r s : Placed A) → i < j → slice_get records i ≡ Some r → slice_get records j ≡ Some s → is_primary r.value ≡ true → is_primary s.value ≡ true → nat_eq (value_of r.value) (value_of s.value) ≡ false

-- the value that the record of that number declares: none where it is an alias
abbrev pub declared_at : {A : Type 0} → (A → Bool) → (A → ℕ) → List (Placed A) → ℕ → Option ℕ
declared_at is_primary value_of records i = option_and_then (λ r. if is_primary r.value then Some (value_of r.value) else None) (slice_get records i)

-- each value leads to its primary record
abbrev pub IsValueIndex : {A : Type 0} → (A → Bool) → (A → ℕ) → List (Placed A) → List (Option ℕ) → Type 0
IsValueIndex is_primary value_of records by_value = (value : ℕ) → entry_of by_value value ≡ primary_index is_primary value_of records value

-- the numbers of all records, in the order of their names
pub record IsNameOrder (names : List (List ℕ)) (by_name : List ℕ) : Type 0 where
  pub within : (i : ℕ) → i < length by_name → slice_index by_name i < length names
  pub rises : (i j : ℕ) → i < j → j < length by_name → is_below (name_at names (slice_index by_name i)) (name_at names (slice_index by_name j)) ≡ true
  pub covers : (n : ℕ) → n < length names → (i : ℕ) × (i < length by_name) × (slice_index by_name i ≡ n)

-- ---- the names as they are sorted

-- the name and the number of a record, and whether it is primary
pub record Named : Type 0 where
  pub name : List ℕ
  pub number : ℕ
  pub primary : Bool

abbrev pub seen : Entry → Named
seen entry = record { name = entry.name.now; number = entry.number; primary = entry.primary }

-- those of the records, which are numbered from n on
unfoldable pub numbered : {A : Type 0} → (A → List ℕ) → (A → Bool) → ℕ → List (Placed A) → List Named
numbered name_of is_primary n [] = []
numbered name_of is_primary n (r ∷ rs) = record { name = name_of r.value; number = n; primary = is_primary r.value } ∷ numbered name_of is_primary (n + 1) rs

-- each name is below the ones after it
abbrev pub NamesRise : List Named → Type 0
NamesRise names = (i j : ℕ) (a b : Named) → i < j → slice_get names i ≡ Some a → slice_get names j ≡ Some b → is_below a.name b.name ≡ true

-- the names of all records, sorted
pub record AreSorted {A : Type 0} (name_of : A → List ℕ) (is_primary : A → Bool) (records : List (Placed A)) (names : List Named) : Type 0 where
  pub same : IsPermutation (numbered name_of is_primary 0 records) names
  pub rise : NamesRise names

-- their numbers are those of the places of a list as long, each once
pub record AreNumbered (names : List Named) : Type 0 where
  pub within : (i : ℕ) (a : Named) → slice_get names i ≡ Some a → a.number < length names
  pub differ : (i j : ℕ) (a b : Named) → i < j → slice_get names i ≡ Some a → slice_get names j ≡ Some b → nat_eq a.number b.number ≡ false

-- how many primary names among them are below a name
abbrev pub primary_below : List Named → List ℕ → ℕ
primary_below names name = count_by (λ a. a.primary && is_below a.name name) names

-- the rank of each of them stands at its number
abbrev pub RankAll : List Named → List ℕ → Type 0
RankAll names ranks = (i : ℕ) (a : Named) → slice_get names i ≡ Some a → slice_get ranks a.number ≡ Some (primary_below names a.name)

-- ---- the whole

-- the rank of each record's name
abbrev pub HasRanks : {A : Type 0} → (A → List ℕ) → (A → Bool) → List (Placed A) → List ℕ → Type 0
HasRanks {A} name_of is_primary records ranks = (n : ℕ) (r : Placed A) → slice_get records n ≡ Some r → slice_get ranks n ≡ Some (names_below name_of is_primary records (name_of r.value))

-- the rank of the record of a number, where there is one
abbrev pub ranked : List ℕ → Option ℕ → Option ℕ
ranked ranks entry = option_and_then (slice_get ranks) entry

-- each value leads to its rank
abbrev pub IsRankIndex : {A : Type 0} → (A → List ℕ) → (A → Bool) → (A → ℕ) → List (Placed A) → List (Option ℕ) → Type 0
IsRankIndex name_of is_primary value_of records ranks = (value : ℕ) → entry_of ranks value ≡ rank_of name_of is_primary value_of records value

pub record IsIndexed {A : Type 0} (name_of : A → List ℕ) (is_primary : A → Bool) (value_of : A → ℕ) (records : List (Placed A)) (by_value : List (Option ℕ)) (by_name : List ℕ) (ranks : List (Option ℕ)) : Type 0 where
  pub values : IsValueIndex is_primary value_of records by_value
  pub names : IsNameOrder (names_of name_of records) by_name
  pub rank : IsRankIndex name_of is_primary value_of records ranks
