-- The search for a name by halving, in the numbers of the records in the order of their names.
use Rattle.std.proofs.Common.{◌≡◌, ℕ, ◌<◌, ◌≤◌, ◌+◌, true, List, Some, None, length, sym, ap, ◌∙◌, subst, arith}
use Rattle.std.specs.Prelude.{slice_index}
use Rattle.std.proofs.lemmas.List.{length-map}
use Rattle.std.proofs.lemmas.Option.{slice_get_within}
use Rattle.std.specs.declared.cmp.Ordering.TheVariants.{Less, Equal, Greater}
use Rattle.std.specs.Str.{bytes_eq}
use Rattle.pol_cursor.specs.References.{Placed}
use Rattle.pol_symtab.specs.SymbolTables.{index_named, has_the_name, is_below}
use Rattle.pol_symtab.specs.Inner.TableIndex.{names_of, name_at, IsNameOrder}
use Rattle.pol_symtab.proofs.ByteOrder.{compare, less_is_below, greater_is_below, below_trans, not_below_itself, equal_is_same, same_name, name_itself}
use Rattle.pol_symtab.proofs.Searches.{by_order, not_true, position_is, position_none, place_of, name_at_is}

-- The name can stand from low up to high alone.
pub record IsBetween (names : List (List ℕ)) (by_name : List ℕ) (name : List ℕ) (low high : ℕ) : Type 0 where
  pub ordered : low ≤ high
  pub ends : high ≤ length by_name
  pub before : (i : ℕ) → i < low → is_below (name_at names (slice_index by_name i)) name ≡ true
  pub behind : (i : ℕ) → high ≤ i → i < length by_name → is_below name (name_at names (slice_index by_name i)) ≡ true

module _ (names : List (List ℕ)) (by_name : List ℕ) (order : IsNameOrder names by_name) (name : List ℕ) where
  pub between_all : IsBetween names by_name name 0 (length by_name)
  between_all = record { ordered = omega arith; ends = omega arith; before = λ i lt. absurd (omega (arith, lt)); behind = λ i le lt. absurd (omega (arith, le, lt)) }

  -- the name of the record at m is below it
  pub between_up : (low m high : ℕ) → IsBetween names by_name name low high → m < high → compare (name_at names (slice_index by_name m)) name ≡ Less → IsBetween names by_name name (m + 1) high
  between_up low m high h lt less = record {
    ordered = omega (arith, lt);
    ends = h.ends;
    before = λ i under. by_order i m
        (λ before. below_trans (name_at names (slice_index by_name i)) (name_at names (slice_index by_name m)) name (order.rises i m before (omega (arith, lt, h.ends))) (less_is_below (name_at names (slice_index by_name m)) name less))
        (λ same. subst (λ (j : ℕ). is_below (name_at names (slice_index by_name j)) name ≡ true) (sym same) (less_is_below (name_at names (slice_index by_name m)) name less))
        (λ behind. absurd (omega (arith, under, behind)));
    behind = h.behind;
  }

  -- the name of the record at m is above it
  pub between_down : (low m high : ℕ) → IsBetween names by_name name low high → low ≤ m → m < high → compare (name_at names (slice_index by_name m)) name ≡ Greater → IsBetween names by_name name low m
  between_down low m high h le lt greater = record {
    ordered = le;
    ends = omega (arith, lt, h.ends);
    before = h.before;
    behind = λ i over inside. by_order i m
        (λ before. absurd (omega (arith, over, before)))
        (λ same. subst (λ (j : ℕ). is_below name (name_at names (slice_index by_name j)) ≡ true) (sym same) (greater_is_below (name_at names (slice_index by_name m)) name greater))
        (λ behind. below_trans name (name_at names (slice_index by_name m)) (name_at names (slice_index by_name i)) (greater_is_below (name_at names (slice_index by_name m)) name greater) (order.rises m i behind inside));
  }

  -- the record at m has it, and no other one does
  alone : (m n : ℕ) → m < length by_name → name_at names (slice_index by_name m) ≡ name → n < length names → name_at names n ≡ name → n ≡ slice_index by_name m
  alone m n in' is lt at =
      let c = order.covers n lt in
      let there : name_at names (slice_index by_name c.0) ≡ name = ap (name_at names) c.2 ∙ at in
      by_order c.0 m
      (λ before. absurd (cc (not_below_itself name, subst (λ (x : List ℕ). is_below x name ≡ true) there (subst (λ (x : List ℕ). is_below (name_at names (slice_index by_name c.0)) x ≡ true) is (order.rises c.0 m before in')))))
      (λ same. sym c.2 ∙ ap (slice_index by_name) same)
      (λ behind. absurd (cc (not_below_itself name, subst (λ (x : List ℕ). is_below x name ≡ true) is (subst (λ (x : List ℕ). is_below (name_at names (slice_index by_name m)) x ≡ true) there (order.rises m c.0 behind c.1)))))

  -- nothing is left where it could stand
  absent : (low high : ℕ) → IsBetween names by_name name low high → high ≤ low → (n : ℕ) → n < length names → name_at names n ≡ name → ⊥
  absent low high h le n lt at =
      let c = order.covers n lt in
      let there : name_at names (slice_index by_name c.0) ≡ name = ap (name_at names) c.2 ∙ at in
      by_order c.0 low
      (λ before. cc (not_below_itself name, subst (λ (x : List ℕ). is_below x name ≡ true) there (h.before c.0 before)))
      (λ same. cc (not_below_itself name, subst (λ (x : List ℕ). is_below name x ≡ true) there (h.behind c.0 (omega (arith, le, same)) c.1)))
      (λ behind. cc (not_below_itself name, subst (λ (x : List ℕ). is_below name x ≡ true) there (h.behind c.0 (omega (arith, le, behind)) c.1)))

module _ {A : Type 0} (name_of : A → List ℕ) (records : List (Placed A)) (by_name : List ℕ) (order : IsNameOrder (names_of name_of records) by_name) (name : List ℕ) where
  pub number_within : (m : ℕ) → m < length by_name → slice_index by_name m < length records
  number_within m lt = omega (arith, order.within m lt, length-map records (λ (r : Placed A). name_of r.value))

  pub search_found : (m : ℕ) → m < length by_name → compare (name_at (names_of name_of records) (slice_index by_name m)) name ≡ Equal → index_named name_of records name ≡ Some (slice_index by_name m)
  unfolding index_named
  search_found m lt equal =
      let is : name_at (names_of name_of records) (slice_index by_name m) ≡ name = equal_is_same (name_at (names_of name_of records) (slice_index by_name m)) name equal in
      let at = place_of records (slice_index by_name m) (number_within m lt) in
      position_is (has_the_name name_of name) records (slice_index by_name m) at.0 at.1
      (subst (λ (x : List ℕ). bytes_eq x name ≡ true) (sym (sym (name_at_is name_of records (slice_index by_name m) at.0 at.1) ∙ is)) (name_itself name))
      (λ j r under is_r. not_true (bytes_eq (name_of r.value) name) (λ e.
      let n = alone (names_of name_of records) by_name order name m j lt is (omega (arith, slice_get_within records j r is_r, length-map records (λ (r : Placed A). name_of r.value)))
      (name_at_is name_of records j r is_r ∙ same_name (name_of r.value) name e) in
      omega (arith, under, n)))

  pub search_missed : (low high : ℕ) → IsBetween (names_of name_of records) by_name name low high → high ≤ low → index_named name_of records name ≡ None
  unfolding index_named
  search_missed low high h le = position_none (has_the_name name_of name) records
      (λ j r is_r. not_true (bytes_eq (name_of r.value) name) (λ e.
      absent (names_of name_of records) by_name order name low high h le j (omega (arith, slice_get_within records j r is_r, length-map records (λ (r : Placed A). name_of r.value)))
      (name_at_is name_of records j r is_r ∙ same_name (name_of r.value) name e)))
