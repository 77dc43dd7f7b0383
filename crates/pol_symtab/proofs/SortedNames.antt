-- The names of the records as they are sorted, and their ranks.
use Rattle.std.proofs.Common.{◌≡◌, ℕ, zero, suc, ◌<◌, ◌≤◌, ◌+◌, Bool, true, false, cond, ◌&&◌, List, [], ◌∷◌, ◌++◌, Some, length, take, slice_get, refl, sym, ap, ◌∙◌, subst, arith}
use Rattle.std.specs.Prelude.{map, option_map, slice_index, nat_eq, ◌-◌}
use Rattle.std.proofs.lemmas.Bool.{eqb-true}
use Rattle.std.specs.Str.{bytes_eq}
use Rattle.std.specs.List.{count_by, All}
use Rattle.std.specs.List.Sorted.{IsPermutation}
use Rattle.std.proofs.lemmas.List.{length-map, length-take-le}
use Rattle.std.proofs.lemmas.List.Sums.{sum_by-cons}
use Rattle.std.proofs.lemmas.List.Sorted.{All-permutation, Contains-permutation, sum_by-IsPermutation, length_permutation}
use Rattle.std.proofs.lemmas.Option.{slice_get-get_or, get_or_from_slice_get, slice_get_within, slice_get-map, same_Some}
use Rattle.pol_cursor.specs.References.{Placed}
use Rattle.pol_symtab.specs.SymbolTables.{is_below, names_below}
use Rattle.pol_symtab.specs.declared.name_order.Entry.{Entry}
use Rattle.pol_symtab.specs.Inner.TableIndex.{Named, seen, numbered, AreSorted, AreNumbered, primary_below, RankAll, HaveDistinctNames, IsNameOrder, HasRanks, names_of, name_at}
use Rattle.pol_symtab.proofs.ByteOrder.{not_below_itself, below_trans, below_or_same, name_itself, same_name}
use Rattle.pol_symtab.proofs.ListPlaces.{take_then}
use Rattle.pol_symtab.proofs.Ranks.{count_none, count-cons}
use Rattle.pol_symtab.proofs.Searches.{not_true, place_of, name_at_is}

-- ---- the numbered names

module _ {A : Type 0} (name_of : A → List ℕ) (is_primary : A → Bool) where
  abbrev pub named : ℕ → Placed A → Named
  named n r = record { name = name_of r.value; number = n; primary = is_primary r.value }

  pub numbered_push : (n : ℕ) (rs : List (Placed A)) (r : Placed A) → numbered name_of is_primary n (rs ++ r ∷ []) ≡ numbered name_of is_primary n rs ++ named (n + length rs) r ∷ []
  unfolding numbered
  numbered_push n [] r = let e : n + 0 ≡ n = omega arith in rw e refl
  numbered_push n (s ∷ rs) r =
      let e : n + 1 + length rs ≡ n + suc (length rs) = omega arith in
      ap (λ (xs : List Named). named n s ∷ xs) (rw (← e) (numbered_push (n + 1) rs r))

  pub numbered_get : (n : ℕ) (rs : List (Placed A)) (k : ℕ) (r : Placed A) → slice_get rs k ≡ Some r → slice_get (numbered name_of is_primary n rs) k ≡ Some (named (n + k) r)
  unfolding numbered
  numbered_get n [] k r at = absurd cc
  numbered_get n (s ∷ rs) zero r at = let e : n + 0 ≡ n = omega arith in rw e (ap (λ (x : Placed A). Some (named n x)) (same_Some s r at))
  numbered_get n (s ∷ rs) (suc k) r at =
      let e : n + 1 + k ≡ n + suc k = omega arith in
      rw (← e) (numbered_get (n + 1) rs k r at)

  -- one more record
  pub numbered_next : (rs : List (Placed A)) (i : ℕ) (r : Placed A) → slice_get rs i ≡ Some r → numbered name_of is_primary 0 (take (i + 1) rs) ≡ numbered name_of is_primary 0 (take i rs) ++ named i r ∷ []
  numbered_next rs i r at =
      let n : length (take i rs) ≡ i = length-take-le i rs (omega (arith, slice_get_within rs i r at)) in
      let m : 0 + length (take i rs) ≡ i = omega (arith, n) in
      ap (numbered name_of is_primary 0) (take_then rs i r at) ∙ numbered_push 0 (take i rs) r ∙ rw m refl

  pub length_numbered : (n : ℕ) (rs : List (Placed A)) → length (numbered name_of is_primary n rs) ≡ length rs
  unfolding numbered
  length_numbered n [] = refl
  length_numbered n (r ∷ rs) = ap suc (length_numbered (n + 1) rs)

  -- what is counted among the records is counted among their names
  pub counted_numbered : (p : Named → Bool) (q : Placed A → Bool) → ((n : ℕ) (r : Placed A) → p (named n r) ≡ q r) → (n : ℕ) (rs : List (Placed A)) → count_by p (numbered name_of is_primary n rs) ≡ count_by q rs
  unfolding numbered
  counted_numbered p q same n [] = refl
  counted_numbered p q same n (r ∷ rs) =
      sum_by-cons (λ (a : Named). cond (p a) 1 0) (named n r) (numbered name_of is_primary (n + 1) rs)
      ∙ rw (same n r, counted_numbered p q same (n + 1) rs) (sym (sum_by-cons (λ (r : Placed A). cond (q r) 1 0) r rs))

-- ---- counts

counted_same : {X : Type 0} (p : X → Bool) (xs ys : List X) → IsPermutation xs ys → count_by p ys ≡ count_by p xs
counted_same {X} p xs ys h = sum_by-IsPermutation (λ (x : X). cond (p x) 1 0) xs ys h

counted_one : {X : Type 0} (p : X → Bool) (xs : List X) (i : ℕ) (x : X) → slice_get xs i ≡ Some x → p x ≡ true → 1 ≤ count_by p xs
counted_one p [] i x at passes = absurd cc
counted_one p (y ∷ xs) zero x at passes =
    let e : p y ≡ true = subst (λ z. p z ≡ true) (sym (same_Some y x at)) passes in
    let one : ◌≡◌ {A = ℕ} (cond (p y) 1 0) 1 = rw e refl in
    omega (arith, count-cons p y xs, one)
counted_one p (y ∷ xs) (suc i) x at passes = omega (arith, count-cons p y xs, counted_one p xs i x at passes)

counted_two : {X : Type 0} (p : X → Bool) (xs : List X) (i j : ℕ) (x y : X) → i < j → slice_get xs i ≡ Some x → slice_get xs j ≡ Some y → p x ≡ true → p y ≡ true → 2 ≤ count_by p xs
counted_two p [] i j x y lt at at' passes passes' = absurd cc
counted_two p (z ∷ xs) i zero x y lt at at' passes passes' = absurd (omega (arith, lt))
counted_two p (z ∷ xs) zero (suc j) x y lt at at' passes passes' =
    let e : p z ≡ true = subst (λ w. p w ≡ true) (sym (same_Some z x at)) passes in
    let one : ◌≡◌ {A = ℕ} (cond (p z) 1 0) 1 = rw e refl in
    omega (arith, count-cons p z xs, one, counted_one p xs j y at' passes')
counted_two p (z ∷ xs) (suc i) (suc j) x y lt at at' passes passes' = omega (arith, count-cons p z xs, counted_two p xs i j x y (omega (arith, lt)) at at' passes passes')

-- ---- sorted names

-- neighbours do not fall
abbrev pub DoNotFall : List Named → Type 0
DoNotFall names = (i : ℕ) (a b : Named) → slice_get names i ≡ Some a → slice_get names (i + 1) ≡ Some b → is_below b.name a.name ≡ false

module _ {A : Type 0} (name_of : A → List ℕ) (is_primary : A → Bool) where
  -- at most one record has a name
  at-go : (r : Placed A) (rs : List (Placed A)) → HaveDistinctNames name_of (r ∷ rs) → (name : List ℕ) → count_by (λ r. bytes_eq (name_of r.value) name) rs ≤ 1 → (b : Bool) → bytes_eq (name_of r.value) name ≡ b → count_by (λ r. bytes_eq (name_of r.value) name) (r ∷ rs) ≤ 1
  at-go r rs distinct name rest true e =
      let one : ◌≡◌ {A = ℕ} (cond (bytes_eq (name_of r.value) name) 1 0) 1 = rw e refl in
      let none : count_by (λ (s : Placed A). bytes_eq (name_of s.value) name) rs ≡ 0 = count_none (λ (s : Placed A). bytes_eq (name_of s.value) name) rs
      (λ i s at. not_true (bytes_eq (name_of s.value) name) (λ e'.
      cc (distinct zero (suc i) r s (omega arith) refl at, subst (λ (n : List ℕ). bytes_eq (name_of r.value) n ≡ true) (sym (same_name (name_of s.value) name e')) e))) in
      omega (arith, count-cons (λ (s : Placed A). bytes_eq (name_of s.value) name) r rs, one, none)
  at-go r rs distinct name rest false e =
      let none : ◌≡◌ {A = ℕ} (cond (bytes_eq (name_of r.value) name) 1 0) 0 = rw e refl in
      omega (arith, count-cons (λ (s : Placed A). bytes_eq (name_of s.value) name) r rs, none, rest)

  at_most_one : (rs : List (Placed A)) → HaveDistinctNames name_of rs → (name : List ℕ) → count_by (λ r. bytes_eq (name_of r.value) name) rs ≤ 1
  at_most_one [] distinct name = omega arith
  at_most_one (r ∷ rs) distinct name =
      at-go r rs distinct name (at_most_one rs (λ i j s t lt at at'. distinct (suc i) (suc j) s t (omega (arith, lt)) at at') name) (bytes_eq (name_of r.value) name) refl

  module _ (records : List (Placed A)) (distinct : HaveDistinctNames name_of records) (names : List Named) (same : IsPermutation (numbered name_of is_primary 0 records) names) where
    apart : (i j : ℕ) (a b : Named) → i < j → slice_get names i ≡ Some a → slice_get names j ≡ Some b → a.name ≡ b.name → ⊥
    apart i j a b lt at at' e =
        let two = counted_two (λ (c : Named). bytes_eq c.name b.name) names i j a b lt at at' (subst (λ (n : List ℕ). bytes_eq n b.name ≡ true) (sym e) (name_itself b.name)) (name_itself b.name) in
        let moved = counted_same (λ (c : Named). bytes_eq c.name b.name) (numbered name_of is_primary 0 records) names same in
        let counted = counted_numbered name_of is_primary (λ c. bytes_eq c.name b.name) (λ r. bytes_eq (name_of r.value) b.name) (λ n r. refl) 0 records in
        omega (arith, two, moved, counted, at_most_one records distinct b.name)

    neighbours : DoNotFall names → (i : ℕ) (a b : Named) → slice_get names i ≡ Some a → slice_get names (i + 1) ≡ Some b → is_below a.name b.name ≡ true
    neighbours steady i a b at at' = go (is_below a.name b.name) refl
      where
        go : (t : Bool) → is_below a.name b.name ≡ t → is_below a.name b.name ≡ true
        go true e = e
        go false e = absurd (apart i (i + 1) a b (omega arith) at at' (below_or_same a.name b.name e (steady i a b at at')))

    far : DoNotFall names → (n i : ℕ) (a b : Named) → slice_get names i ≡ Some a → slice_get names (i + n + 1) ≡ Some b → is_below a.name b.name ≡ true
    far steady zero i a b at at' = let e : i + 0 + 1 ≡ i + 1 = omega arith in neighbours steady i a b at (subst (λ (k : ℕ). slice_get names k ≡ Some b) e at')
    far steady (suc n) i a b at at' =
        let c = place_of names (i + n + 1) (omega (arith, slice_get_within names (i + suc n + 1) b at')) in
        let e : i + suc n + 1 ≡ i + n + 1 + 1 = omega arith in
        below_trans a.name c.0.name b.name (far steady n i a c.0 at c.1) (neighbours steady (i + n + 1) c.0 b c.1 (subst (λ (k : ℕ). slice_get names k ≡ Some b) e at'))

    pub sorted_names : DoNotFall names → AreSorted name_of is_primary records names
    sorted_names steady = record {
      same = same;
      rise = λ i j a b lt at at'. let e : j ≡ i + (j - i - 1) + 1 = omega (arith, lt) in far steady (j - i - 1) i a b at (subst (λ (k : ℕ). slice_get names k ≡ Some b) e at');
    }

  -- ---- what sorted names say of the records

  module _ (records : List (Placed A)) (names : List Named) (sorted : AreSorted name_of is_primary records names) where
    -- whose name it is
    abbrev IsOf : Named → Type 0
    IsOf a = (r : Placed A) × (slice_get records a.number ≡ Some r) × (a.name ≡ name_of r.value)

    all_numbered : All IsOf (numbered name_of is_primary 0 records)
    all_numbered k d lt =
        let at = place_of records k (omega (arith, lt, length_numbered name_of is_primary 0 records)) in
        let is = get_or_from_slice_get (numbered name_of is_primary 0 records) k (named name_of is_primary (0 + k) at.0) d (numbered_get name_of is_primary 0 records k at.0 at.1) in
        let e : 0 + k ≡ k = omega arith in
        subst IsOf (sym is) (at.0, subst (λ (n : ℕ). slice_get records n ≡ Some at.0) (sym e) at.1, refl)

    record_of : (i : ℕ) (a : Named) → slice_get names i ≡ Some a → IsOf a
    record_of i a at = subst IsOf (get_or_from_slice_get names i a a at) (All-permutation IsOf (numbered name_of is_primary 0 records) names sorted.same all_numbered i a (slice_get_within names i a at))

    length_same : length names ≡ length records
    length_same = length_permutation (numbered name_of is_primary 0 records) names sorted.same ∙ length_numbered name_of is_primary 0 records

    -- where the name of a record is
    place_in : (n : ℕ) (r : Placed A) → slice_get records n ≡ Some r → (i : ℕ) × (i < length names) × (slice_get names i ≡ Some (named name_of is_primary n r))
    place_in n r at =
        let e : 0 + n ≡ n = omega arith in
        let a = named name_of is_primary n r in
        let there = subst (λ (m : ℕ). slice_get (numbered name_of is_primary 0 records) n ≡ Some (named name_of is_primary m r)) e (numbered_get name_of is_primary 0 records n r at) in
        let c = Contains-permutation (numbered name_of is_primary 0 records) names a sorted.same (n, slice_get_within (numbered name_of is_primary 0 records) n a there, get_or_from_slice_get (numbered name_of is_primary 0 records) n a a there) in
        (c.0, c.1, slice_get-get_or names c.0 a c.1 ∙ ap Some c.2)

    pub sorted_numbered : AreNumbered names
    sorted_numbered = record {
      within = λ i a at. let r = record_of i a at in omega (arith, length_same, slice_get_within records a.number r.0 r.1);
      differ = λ i j a b lt at at'. not_true (nat_eq a.number b.number) (λ e.
          let r = record_of i a at in
          let s = record_of j b at' in
          let one = same_Some r.0 s.0 (sym r.1 ∙ ap (slice_get records) (eqb-true a.number b.number e) ∙ s.1) in
          let names_same : a.name ≡ b.name = r.2 ∙ ap (λ (t : Placed A). name_of t.value) one ∙ sym s.2 in
          cc (not_below_itself b.name, subst (λ (n : List ℕ). is_below n b.name ≡ true) names_same (sorted.rise i j a b lt at at')));
    }

    number_at : (i : ℕ) (a : Named) → slice_get names i ≡ Some a → slice_index (map (λ (b : Named). b.number) names) i ≡ a.number
    number_at i a at = get_or_from_slice_get (map (λ (b : Named). b.number) names) i a.number 0 (slice_get-map (λ (b : Named). b.number) names i ∙ ap (option_map (λ (b : Named). b.number)) at)

    name_there : (i : ℕ) (a : Named) → slice_get names i ≡ Some a → name_at (names_of name_of records) (slice_index (map (λ (b : Named). b.number) names) i) ≡ a.name
    name_there i a at = let r = record_of i a at in ap (name_at (names_of name_of records)) (number_at i a at) ∙ name_at_is name_of records a.number r.0 r.1 ∙ sym r.2

    pub sorted_order : IsNameOrder (names_of name_of records) (map (λ (b : Named). b.number) names)
    sorted_order =
        let n = length-map names (λ (b : Named). b.number) in
        let m = length-map records (λ (r : Placed A). name_of r.value) in
        record {
          within = λ i lt.
              let a = place_of names i (omega (arith, lt, n)) in
              let r = record_of i a.0 a.1 in
              omega (arith, number_at i a.0 a.1, slice_get_within records a.0.number r.0 r.1, m);
          rises = λ i j lt lt'.
              let a = place_of names i (omega (arith, lt, lt', n)) in
              let b = place_of names j (omega (arith, lt', n)) in
              rw (name_there i a.0 a.1, name_there j b.0 b.1) (sorted.rise i j a.0 b.0 lt a.1 b.1);
          covers = λ k lt.
              let r = place_of records k (omega (arith, lt, m)) in
              let p = place_in k r.0 r.1 in
              (p.0, omega (arith, p.1, n), number_at p.0 (named name_of is_primary k r.0) p.2);
        }

    below_same : (name : List ℕ) → primary_below names name ≡ names_below name_of is_primary records name
    below_same name =
        counted_same (λ (a : Named). a.primary && is_below a.name name) (numbered name_of is_primary 0 records) names sorted.same
        ∙ counted_numbered name_of is_primary (λ a. a.primary && is_below a.name name) (λ r. is_primary r.value && is_below (name_of r.value) name) (λ n r. refl) 0 records

    pub sorted_ranks : (ranks : List ℕ) → RankAll names ranks → HasRanks name_of is_primary records ranks
    sorted_ranks ranks h n r at = let p = place_in n r at in h p.0 (named name_of is_primary n r) p.2 ∙ ap Some (below_same (name_of r.value))

-- the numbers of entries, with and without their names
pub numbers_seen : (entries : List Entry) → map (λ (entry : Entry). entry.number) entries ≡ map (λ (a : Named). a.number) (map seen entries)
numbers_seen [] = refl
numbers_seen (e ∷ es) = ap (λ (ns : List ℕ). e.number ∷ ns) (numbers_seen es)
