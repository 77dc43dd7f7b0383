-- What the searches through the records of a table find.
use Rattle.std.proofs.Common.{inl, inr, ◌⊎◌, ◌≡◌, ℕ, zero, suc, ◌<◌, ◌≤◌, Bool, true, false, cond, List, [], ◌∷◌, Option, Some, None, length, get_or, slice_get, refl, sym, ap, subst, ◌∙◌, ltb, arith}
use Rattle.std.specs.Prelude.{is_some, map, option_map}
use Rattle.std.specs.List.{find, position, position_or_len}
use Rattle.std.proofs.lemmas.Bool.{ltb-true, ltb-false, lt-ltb, le-ltb, cases_order}
use Rattle.std.proofs.lemmas.Option.{cond_some, slice_get_past, get_or_from_slice_get, slice_get_within, slice_get-get_or, slice_get-map}
use Rattle.std.proofs.lemmas.List.Folds.{find_at}
use Rattle.std.proofs.lemmas.List.Sums.{position_or_len_is}
use Rattle.pol_cursor.specs.References.{Placed}
use Rattle.pol_symtab.specs.SymbolTables.{index_named, value_named, primary_index, primary_name, rank_of, has_the_name, declares, names_below}
use Rattle.pol_symtab.specs.Inner.TableIndex.{names_of, name_at, HasRanks, IsRankIndex, IsValueIndex, joined, ranked}

-- ---- by cases

pub by_order : {G : Type 0} (a b : ℕ) → (a < b → G) → (a ≡ b → G) → (b < a → G) → G
by_order {G} a b less same more = go (cases_order a b)
  where
    go : (a ≡ b) ⊎ ((a < b) ⊎ (b < a)) → G
    go (inl h) = same h
    go (inr (inl h)) = less h
    go (inr (inr h)) = more h

pub not_true : (b : Bool) → (b ≡ true → ⊥) → b ≡ false
not_true true h = absurd (h refl)
not_true false h = refl

-- ---- the first place of a list that passes

-- what stands at a place of a list
pub place_of : {X : Type 0} (xs : List X) (i : ℕ) → i < length xs → (x : X) × (slice_get xs i ≡ Some x)
place_of [] i lt = absurd (omega (arith, lt))
place_of (x ∷ xs) zero lt = (x, refl)
place_of (x ∷ xs) (suc i) lt = place_of xs i (omega (arith, lt))

pub position_is : {X : Type 0} (p : X → Bool) (xs : List X) (i : ℕ) (x : X) → slice_get xs i ≡ Some x → p x ≡ true → ((j : ℕ) (y : X) → j < i → slice_get xs j ≡ Some y → p y ≡ false) → position p xs ≡ Some i
position_is {X} p xs i x at passes before =
    let within : i < length xs = slice_get_within xs i x at in
    let first : position_or_len p xs ≡ i = position_or_len_is p xs i x (omega (arith, within))
    (λ k under. before k (get_or xs k x) under (slice_get-get_or xs k x (omega (arith, under, within))))
    (λ _. subst (λ (y : X). p y ≡ true) (sym (get_or_from_slice_get xs i x x at)) passes) in
    rw (first, lt-ltb i (length xs) within) refl

pub position_none : {X : Type 0} (p : X → Bool) (xs : List X) → ((j : ℕ) (y : X) → slice_get xs j ≡ Some y → p y ≡ false) → position p xs ≡ None
position_none {X} p xs none =
    let first : position_or_len p xs ≡ length xs = whole p xs none in
    rw (first, le-ltb (length xs) (length xs) (omega arith)) refl
  where
    whole : (p : X → Bool) (xs : List X) → ((j : ℕ) (y : X) → slice_get xs j ≡ Some y → p y ≡ false) → position_or_len p xs ≡ length xs
    whole p [] none = refl
    whole p (x ∷ xs) none = rw (none 0 x refl) (omega (arith, whole p xs (λ j y at. none (suc j) y at)))

module _ {X : Type 0} (p : X → Bool) (xs : List X) where
  pub found_at : (i : ℕ) → position p xs ≡ Some i → (i < length xs) × (find p xs ≡ slice_get xs i)
  found_at i e =
      let h = cond_some (ltb (position_or_len p xs) (length xs)) (position_or_len p xs) i e in
      let lt : position_or_len p xs < length xs = ltb-true _ _ h.0 in
      (omega (arith, h.1, lt), find_at p xs ∙ ap (slice_get xs) h.1)

  none-go : (b : Bool) (n : ℕ) → cond b (Some n) None ≡ None → b ≡ false
  none-go true n e = absurd cc
  none-go false n e = refl

  pub nothing_found : position p xs ≡ None → find p xs ≡ None
  nothing_found e =
      let past : length xs ≤ position_or_len p xs = ltb-false _ _ (none-go (ltb (position_or_len p xs) (length xs)) (position_or_len p xs) e) in
      find_at p xs ∙ slice_get_past xs (position_or_len p xs) past

-- ---- the records of a table

pub name_at_is : {A : Type 0} (name_of : A → List ℕ) (records : List (Placed A)) (i : ℕ) (r : Placed A) → slice_get records i ≡ Some r → name_at (names_of name_of records) i ≡ name_of r.value
name_at_is {A} name_of records i r at = get_or_from_slice_get (names_of name_of records) i (name_of r.value) [] (slice_get-map (λ (r : Placed A). name_of r.value) records i ∙ ap (option_map (λ (r : Placed A). name_of r.value)) at)

module _ {A : Type 0} (name_of : A → List ℕ) (is_primary : A → Bool) (value_of : A → ℕ) (records : List (Placed A)) where
  pub index_named_within : (name : List ℕ) (i : ℕ) → index_named name_of records name ≡ Some i → i < length records
  unfolding index_named
  index_named_within name i e = (found_at (has_the_name name_of name) records i e).0

  pub value_named_at : (name : List ℕ) (i : ℕ) (r : Placed A) → index_named name_of records name ≡ Some i → slice_get records i ≡ Some r → value_named name_of value_of records name ≡ Some (value_of r.value)
  unfolding index_named value_named
  value_named_at name i r e at = ap (option_map (λ (r : Placed A). value_of r.value)) ((found_at (has_the_name name_of name) records i e).1 ∙ at)

  pub value_named_none : (name : List ℕ) → index_named name_of records name ≡ None → value_named name_of value_of records name ≡ None
  unfolding index_named value_named
  value_named_none name e = ap (option_map (λ (r : Placed A). value_of r.value)) (nothing_found (has_the_name name_of name) records e)

  pub primary_within : (value : ℕ) (i : ℕ) → primary_index is_primary value_of records value ≡ Some i → i < length records
  unfolding primary_index
  primary_within value i e = (found_at (declares is_primary value_of value) records i e).0

  pub primary_name_at : (value : ℕ) (i : ℕ) (r : Placed A) → primary_index is_primary value_of records value ≡ Some i → slice_get records i ≡ Some r → primary_name name_of is_primary value_of records value ≡ Some (name_of r.value)
  unfolding primary_index primary_name
  primary_name_at value i r e at = ap (option_map (λ (r : Placed A). name_of r.value)) ((found_at (declares is_primary value_of value) records i e).1 ∙ at)

  pub primary_name_none : (value : ℕ) → primary_index is_primary value_of records value ≡ None → primary_name name_of is_primary value_of records value ≡ None
  unfolding primary_index primary_name
  primary_name_none value e = ap (option_map (λ (r : Placed A). name_of r.value)) (nothing_found (declares is_primary value_of value) records e)

  -- a value is declared exactly where its record has a place
  declared_so : (value : ℕ) (place : Option ℕ) → primary_index is_primary value_of records value ≡ place → is_some place ≡ is_some (primary_name name_of is_primary value_of records value)
  declared_so value (Some i) e = let at = place_of records i (primary_within value i e) in rw (primary_name_at value i at.0 e at.1) refl
  declared_so value None e = rw (primary_name_none value e) refl

  pub primary_declared : (value : ℕ) → is_some (primary_index is_primary value_of records value) ≡ is_some (primary_name name_of is_primary value_of records value)
  primary_declared value = declared_so value (primary_index is_primary value_of records value) refl

  -- the rank of a value, in the list of ranks by record
  pub rank_at : (ranks : List ℕ) → HasRanks name_of is_primary records ranks → (value : ℕ) (i : ℕ) → primary_index is_primary value_of records value ≡ Some i → rank_of name_of is_primary value_of records value ≡ slice_get ranks i
  unfolding rank_of
  rank_at ranks h value i e =
      let at = place_of records i (primary_within value i e) in
      ap (option_map (names_below name_of is_primary records)) (primary_name_at value i at.0 e at.1) ∙ sym (h i at.0 at.1)

  pub rank_none : (value : ℕ) → primary_index is_primary value_of records value ≡ None → rank_of name_of is_primary value_of records value ≡ None
  unfolding rank_of
  rank_none value e = ap (option_map (names_below name_of is_primary records)) (primary_name_none value e)

  pub values_ranked : (ranks : List ℕ) → HasRanks name_of is_primary records ranks → (by_value : List (Option ℕ)) → IsValueIndex is_primary value_of records by_value → IsRankIndex name_of is_primary value_of records (map (ranked ranks) by_value)
  values_ranked ranks h by_value index value =
      ap joined (slice_get-map (ranked ranks) by_value value) ∙ joined_ranked (slice_get by_value value)
      ∙ ap (ranked ranks) (index value) ∙ ranked_so (primary_index is_primary value_of records value) refl
    where
      joined_ranked : (entry : Option (Option ℕ)) → joined (option_map (ranked ranks) entry) ≡ ranked ranks (joined entry)
      joined_ranked None = refl
      joined_ranked (Some entry) = refl

      ranked_so : (place : Option ℕ) → primary_index is_primary value_of records value ≡ place → ranked ranks place ≡ rank_of name_of is_primary value_of records value
      ranked_so (Some i) e = sym (rank_at ranks h value i e)
      ranked_so None e = sym (rank_none value e)
