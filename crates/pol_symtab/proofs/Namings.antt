-- What records name is found as the records are.
use Rattle.std.proofs.Common.{◌≡◌, ℕ, ◌<◌, Bool, true, false, cond, List, [], ◌∷◌, Option, Some, None, length, refl, sym, ap, ◌∙◌, subst, get_or, slice_get}
use Rattle.std.specs.Prelude.{map, option_map, ◌&&◌, ◌≤◌, nat_eq}
use Rattle.std.specs.Str.{bytes_eq}
use Rattle.std.specs.declared.cmp.Ordering.{Ordering}
use Rattle.std.specs.List.{find, position, position_or_len, count_by}
use Rattle.std.proofs.lemmas.List.{length-map}
use Rattle.std.proofs.lemmas.List.Sums.{sum_by-cons}
use Rattle.std.proofs.lemmas.Option.{slice_get-map, slice_get-get_or, same_Some}
use Rattle.pol_cursor.specs.References.{Placed}
use Rattle.pol_symtab.specs.SymbolTables.{index_named, value_named, primary_index, primary_name, rank_of, has_the_name, declares, names_below, is_below}
use Rattle.pol_symtab.specs.declared.symbol_names.SymbolName.{SymbolName}
use Rattle.pol_symtab.specs.Inner.Namings.{Naming, its_name, its_value, is_its_primary, naming, naming_of}
use Rattle.pol_symtab.specs.Inner.TableIndex.{HaveDistinctNames, HaveDistinctValues, names_of, name_at}
use Rattle.pol_symtab.proofs.ByteOrder.{compare, compared}
use Rattle.pol_symtab.proofs.Searches.{name_at_is}

pub as_many : (names : List SymbolName) → length (map naming names) ≡ length names
as_many names = length-map names naming

pub naming_at : (names : List SymbolName) (i : ℕ) (symbol : SymbolName) → slice_get names i ≡ Some symbol → slice_get (map naming names) i ≡ Some (naming symbol)
naming_at names i symbol at = slice_get-map naming names i ∙ ap (option_map naming) at

-- what an index finds
abbrev pub no_symbol : SymbolName
no_symbol = record { name = record { ref_ptr = (0, 0); now = [] }; value = 0; primary = false }

pub naming_there : (names : List SymbolName) (i : ℕ) → i < length names → slice_get (map naming names) i ≡ Some (naming (get_or names i no_symbol))
naming_there names i lt = naming_at names i (get_or names i no_symbol) (slice_get-get_or names i no_symbol lt)

pub compared_there : (names : List SymbolName) (i : ℕ) (other : List ℕ) (o : Ordering) → i < length names → compare (get_or names i no_symbol).name.now other ≡ o → compare (name_at (names_of its_name (map naming names)) i) other ≡ o
compared_there names i other o lt e =
    let s = get_or names i no_symbol in
    compared s.name.now (name_at (names_of its_name (map naming names)) i) other o (sym (name_at_is its_name (map naming names) i (naming s) (naming_there names i lt))) e

-- the name and the value of a number
pub name_there : (symbols : List (Placed Naming)) (i : ℕ) (symbol : Placed Naming) → slice_get symbols i ≡ Some symbol → slice_get (map (λ symbol. its_name symbol.value) symbols) i ≡ Some (its_name symbol.value)
name_there symbols i symbol at = slice_get-map (λ (symbol : Placed Naming). its_name symbol.value) symbols i ∙ ap (option_map (λ (symbol : Placed Naming). its_name symbol.value)) at

pub value_there : (symbols : List (Placed Naming)) (i : ℕ) (symbol : Placed Naming) → slice_get symbols i ≡ Some symbol → slice_get (map (λ symbol. its_value symbol.value) symbols) i ≡ Some (its_value symbol.value)
value_there symbols i symbol at = slice_get-map (λ (symbol : Placed Naming). its_value symbol.value) symbols i ∙ ap (option_map (λ (symbol : Placed Naming). its_value symbol.value)) at

-- ---- searches through a list that was mapped

module _ {X Y : Type 0} (f : X → Y) where
  find-go : (p : Y → Bool) (x : X) (xs : List X) → find p (map f xs) ≡ option_map f (find (λ x. p (f x)) xs) → (b : Bool) → cond b (Some (f x)) (find p (map f xs)) ≡ option_map f (cond b (Some x) (find (λ x. p (f x)) xs))
  find-go p x xs rest true = refl
  find-go p x xs rest false = rest

  find_mapped : (p : Y → Bool) (xs : List X) → find p (map f xs) ≡ option_map f (find (λ x. p (f x)) xs)
  find_mapped p [] = refl
  find_mapped p (x ∷ xs) = find-go p x xs (find_mapped p xs) (p (f x))

  first_mapped : (p : Y → Bool) (xs : List X) → position_or_len p (map f xs) ≡ position_or_len (λ x. p (f x)) xs
  first_mapped p [] = refl
  first_mapped p (x ∷ xs) = rw (first_mapped p xs) refl

  position_mapped : (p : Y → Bool) (xs : List X) → position p (map f xs) ≡ position (λ x. p (f x)) xs
  position_mapped p xs = rw (first_mapped p xs, length-map xs f) refl

  count_mapped : (p : Y → Bool) (xs : List X) → count_by p (map f xs) ≡ count_by (λ x. p (f x)) xs
  count_mapped p [] = refl
  count_mapped p (x ∷ xs) = sum_by-cons (λ y. cond (p y) 1 0) (f x) (map f xs) ∙ rw (count_mapped p xs) (sym (sum_by-cons (λ x. cond (p (f x)) 1 0) x xs))

  some_mapped : (o : Option X) (y : Y) → option_map f o ≡ Some y → (x : X) × (o ≡ Some x) × (f x ≡ y)
  some_mapped None y e = absurd cc
  some_mapped (Some x) y e = (x, refl, same_Some (f x) y e)

  mapped_twice : {Z : Type 0} (g : Y → Z) (xs : List X) → map g (map f xs) ≡ map (λ x. g (f x)) xs
  mapped_twice g [] = refl
  mapped_twice g (x ∷ xs) = ap (λ zs. g (f x) ∷ zs) (mapped_twice g xs)

  -- what stands at a place of it
  mapped_at : (xs : List X) (i : ℕ) (y : Y) → slice_get (map f xs) i ≡ Some y → (x : X) × (slice_get xs i ≡ Some x) × (f x ≡ y)
  mapped_at xs i y at = some_mapped (slice_get xs i) y (sym (slice_get-map f xs i) ∙ at)

both_mapped : {X Y Z : Type 0} (f : X → Y) (g : Y → Z) (o : Option X) → option_map g (option_map f o) ≡ option_map (λ x. g (f x)) o
both_mapped f g None = refl
both_mapped f g (Some x) = refl

-- ---- the look-ups

module _ {A : Type 0} (name_of : A → List ℕ) (is_primary : A → Bool) (value_of : A → ℕ) (records : List (Placed A)) where
  abbrev told : Placed A → Placed Naming
  told = naming_of name_of is_primary value_of

  pub index_named_by : (name : List ℕ) → index_named its_name (map told records) name ≡ index_named name_of records name
  unfolding index_named
  index_named_by name = position_mapped told (has_the_name its_name name) records

  pub value_named_by : (name : List ℕ) → value_named its_name its_value (map told records) name ≡ value_named name_of value_of records name
  unfolding value_named
  value_named_by name =
      ap (option_map (λ (n : Placed Naming). its_value n.value)) (find_mapped told (has_the_name its_name name) records)
      ∙ both_mapped told (λ n. its_value n.value) (find (has_the_name name_of name) records)

  pub primary_index_by : (value : ℕ) → primary_index is_its_primary its_value (map told records) value ≡ primary_index is_primary value_of records value
  unfolding primary_index
  primary_index_by value = position_mapped told (declares is_its_primary its_value value) records

  pub primary_name_by : (value : ℕ) → primary_name its_name is_its_primary its_value (map told records) value ≡ primary_name name_of is_primary value_of records value
  unfolding primary_name
  primary_name_by value =
      ap (option_map (λ (n : Placed Naming). its_name n.value)) (find_mapped told (declares is_its_primary its_value value) records)
      ∙ both_mapped told (λ n. its_name n.value) (find (declares is_primary value_of value) records)

  below-go : (o : Option (List ℕ)) → option_map (names_below its_name is_its_primary (map told records)) o ≡ option_map (names_below name_of is_primary records) o
  below-go None = refl
  below-go (Some name) = ap Some (count_mapped told (λ n. is_its_primary n.value && is_below (its_name n.value) name) records)

  pub rank_of_by : (value : ℕ) → rank_of its_name is_its_primary its_value (map told records) value ≡ rank_of name_of is_primary value_of records value
  unfolding rank_of
  rank_of_by value =
      below-go (primary_name its_name is_its_primary its_value (map told records) value)
      ∙ ap (option_map (names_below name_of is_primary records)) (primary_name_by value)

  pub names_by : map (λ symbol. its_name symbol.value) (map told records) ≡ map (λ r. name_of r.value) records
  names_by = mapped_twice told (λ symbol. its_name symbol.value) records

  pub values_by : map (λ symbol. its_value symbol.value) (map told records) ≡ map (λ r. value_of r.value) records
  values_by = mapped_twice told (λ symbol. its_value symbol.value) records

  -- ---- what is distinct

  pub names_distinct : HaveDistinctNames name_of records → HaveDistinctNames its_name (map told records)
  names_distinct distinct i j a b lt at at' =
      let r = mapped_at told records i a at in
      let s = mapped_at told records j b at' in
      subst (λ (n : Placed Naming). bytes_eq (its_name n.value) (its_name b.value) ≡ false) r.2
      (subst (λ (n : Placed Naming). bytes_eq (name_of r.0.value) (its_name n.value) ≡ false) s.2 (distinct i j r.0 s.0 lt r.1 s.1))

  pub values_distinct : (nprim : ℕ) → HaveDistinctValues is_primary value_of nprim records → HaveDistinctValues is_its_primary its_value nprim (map told records)
  values_distinct nprim values = record {
    within = λ i a at primary.
        let r = mapped_at told records i a at in
        subst (λ (n : Placed Naming). its_value n.value ≤ nprim) r.2 (values.within i r.0 r.1 (subst (λ (n : Placed Naming). is_its_primary n.value ≡ true) (sym r.2) primary));
    distinct = λ i j a b lt at at' primary primary'.
        let r = mapped_at told records i a at in
        let s = mapped_at told records j b at' in
        subst (λ (n : Placed Naming). nat_eq (its_value n.value) (its_value b.value) ≡ false) r.2
        (subst (λ (n : Placed Naming). nat_eq (value_of r.0.value) (its_value n.value) ≡ false) s.2
        (values.distinct i j r.0 s.0 lt r.1 s.1 (subst (λ (n : Placed Naming). is_its_primary n.value ≡ true) (sym r.2) primary) (subst (λ (n : Placed Naming). is_its_primary n.value ≡ true) (sym s.2) primary')));
  }
