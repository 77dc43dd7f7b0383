-- Elements in rows by their keys, where the keys that were met are in the order in which they were.
use Rattle.std.proofs.Common.{◌≡◌, suc, ◌+◌, Bool, true, false, not, cond, ◌||◌, inl, inr, List, [], ◌∷◌, ◌++◌, length, refl, sym, ap, subst, ◌∙◌, arith, Decides}
use Rattle.std.specs.Prelude.{map}
use Rattle.std.specs.List.{filter, list_any, position_or_len}
use Rattle.std.proofs.lemmas.Bool.{cases_Bool, false≢true}
use Rattle.std.proofs.lemmas.List.{append-nil, length-map, map_push}
use Rattle.std.proofs.lemmas.List.Elements.{filter-append}
use Rattle.indexmap.specs.IndexSet.{insert_key}
use Rattle.pol_convert.specs.Grouped.{firsts}
use Rattle.pol_convert.specs.Inner.GroupRows.{with_row, rows_of, AreInRows}

module _ {K : Type 0} (same : K → K → Bool) (decides : (a b : K) → Decides (same a b) (a ≡ b)) where
  itself : (k : K) → same k k ≡ true
  itself k = (decides k k).1 refl

  turned : (a b : K) → same a b ≡ false → same b a ≡ false
  turned a b e = elim (cases_Bool (same b a)) [
    | inl t ↦ absurd (false≢true (sym e ∙ (decides a b).1 (sym ((decides b a).0 t))))
    | inr f ↦ f
  ]

  -- a filter that a key passes keeps the keys like it
  any_kept : (p : K → Bool) (k : K) (ks : List K) → p k ≡ true → list_any (same k) (filter p ks) ≡ list_any (same k) ks
  any_kept p k [] e = refl
  any_kept p k (x ∷ xs) e = go (p x) (same k x) refl refl (any_kept p k xs e)
    where
      go : (b c : Bool) → p x ≡ b → same k x ≡ c → list_any (same k) (filter p xs) ≡ list_any (same k) xs → list_any (same k) (cond b (x ∷ filter p xs) (filter p xs)) ≡ (c || list_any (same k) xs)
      go true c passes is rest = rw (is, rest) refl
      go false true passes is rest = absurd (false≢true (sym passes ∙ ap p (sym ((decides k x).0 is)) ∙ e))
      go false false passes is rest = rest

  -- the first keys have the key where the keys have it
  any_first : (k : K) (ks : List K) → list_any (same k) (firsts same ks) ≡ list_any (same k) ks
  any_first k [] = refl
  any_first k (x ∷ xs) = go (same k x) refl (any_first k xs)
    where
      go : (b : Bool) → same k x ≡ b → list_any (same k) (firsts same xs) ≡ list_any (same k) xs → (same k x || list_any (same k) (filter (λ other. not (same x other)) (firsts same xs))) ≡ (same k x || list_any (same k) xs)
      go true is rest = rw is refl
      go false is rest = ap (λ (b : Bool). same k x || b) (any_kept (λ other. not (same x other)) k (firsts same xs) (ap not (turned k x is)) ∙ rest)

  -- one more key is one of the first ones, or goes last
  pub firsts_push : (ks : List K) (k : K) → firsts same (ks ++ k ∷ []) ≡ insert_key same (firsts same ks) k
  firsts_push [] k = refl
  firsts_push (x ∷ xs) k = ap (λ (ys : List K). x ∷ filter (λ other. not (same x other)) ys) (firsts_push xs k) ∙ go (same x k) (list_any (same k) (firsts same xs)) refl refl
    where
      go : (b c : Bool) → same x k ≡ b → list_any (same k) (firsts same xs) ≡ c
          → x ∷ filter (λ other. not (same x other)) (cond c (firsts same xs) (firsts same xs ++ k ∷ [])) ≡ insert_key same (x ∷ filter (λ other. not (same x other)) (firsts same xs)) k
      go true true is there = rw ((decides k x).1 (sym ((decides x k).0 is))) refl
      go true false is there =
          rw ((decides k x).1 (sym ((decides x k).0 is)), filter-append (λ other. not (same x other)) (firsts same xs) (k ∷ []), is, append-nil (filter (λ other. not (same x other)) (firsts same xs))) refl
      go false c is there =
          let kept : list_any (same k) (filter (λ other. not (same x other)) (firsts same xs)) ≡ c = any_kept (λ other. not (same x other)) k (firsts same xs) (ap not is) ∙ there in
          rw (turned x k is, kept) (last c)
        where
          last : (c : Bool) → x ∷ filter (λ other. not (same x other)) (cond c (firsts same xs) (firsts same xs ++ k ∷ [])) ≡ cond c (x ∷ filter (λ other. not (same x other)) (firsts same xs)) (x ∷ filter (λ other. not (same x other)) (firsts same xs) ++ k ∷ [])
          last true = refl
          last false = rw (filter-append (λ other. not (same x other)) (firsts same xs) (k ∷ []), is) refl

  -- no key stands there twice
  abbrev pub Apart : List K → Type 0
  Apart [] = Unit {0}
  Apart (k ∷ ks) = (list_any (same k) ks ≡ false) × Apart ks

  none_left : (q p : K → Bool) (ks : List K) → list_any q ks ≡ false → list_any q (filter p ks) ≡ false
  none_left q p [] e = refl
  none_left q p (x ∷ xs) e = go (q x) (p x) refl e (none_left q p xs)
    where
      go : (b c : Bool) → q x ≡ b → (b || list_any q xs) ≡ false → (list_any q xs ≡ false → list_any q (filter p xs) ≡ false) → list_any q (cond c (x ∷ filter p xs) (filter p xs)) ≡ false
      go true c is e rest = absurd (false≢true (sym e))
      go false true is e rest = rw is (rest e)
      go false false is e rest = rest e

  apart-filter : (p : K → Bool) (ks : List K) → Apart ks → Apart (filter p ks)
  apart-filter p [] h = tt
  apart-filter p (x ∷ xs) h = go (p x) (apart-filter p xs h.1)
    where
      go : (b : Bool) → Apart (filter p xs) → Apart (cond b (x ∷ filter p xs) (filter p xs))
      go true rest = (none_left (same x) p xs h.0, rest)
      go false rest = rest

  others_left : (x : K) (ks : List K) → list_any (same x) (filter (λ other. not (same x other)) ks) ≡ false
  others_left x [] = refl
  others_left x (y ∷ ys) = go (same x y) refl (others_left x ys)
    where
      go : (b : Bool) → same x y ≡ b → list_any (same x) (filter (λ other. not (same x other)) ys) ≡ false
          → list_any (same x) (cond (not b) (y ∷ filter (λ other. not (same x other)) ys) (filter (λ other. not (same x other)) ys)) ≡ false
      go true is rest = rest
      go false is rest = rw is rest

  pub apart-firsts : (ks : List K) → Apart (firsts same ks)
  apart-firsts [] = tt
  apart-firsts (x ∷ xs) = (others_left x (firsts same xs), apart-filter (λ other. not (same x other)) (firsts same xs) (apart-firsts xs))

  module _ {A : Type 0} (key_of : A → K) where
    abbrev row_of : List A → K → List A
    row_of xs key = filter (λ x. same key (key_of x)) xs

    -- no element has a key that is none of theirs
    no_row : (k : K) (xs : List A) → list_any (same k) (map key_of xs) ≡ false → row_of xs k ≡ []
    no_row k [] e = refl
    no_row k (x ∷ xs) e = go (same k (key_of x)) e (no_row k xs)
      where
        go : (b : Bool) → (b || list_any (same k) (map key_of xs)) ≡ false → (list_any (same k) (map key_of xs) ≡ false → row_of xs k ≡ []) → cond b (x ∷ row_of xs k) (row_of xs k) ≡ []
        go true e rest = absurd (false≢true (sym e))
        go false e rest = rest e

    row_gains : (xs : List A) (x : A) (k : K) → same k (key_of x) ≡ true → row_of (xs ++ x ∷ []) k ≡ row_of xs k ++ x ∷ []
    row_gains xs x k e = filter-append (λ y. same k (key_of y)) xs (x ∷ []) ∙ ap (λ (b : Bool). row_of xs k ++ cond b (x ∷ []) []) e

    row_stays : (xs : List A) (x : A) (k : K) → same k (key_of x) ≡ false → row_of (xs ++ x ∷ []) k ≡ row_of xs k
    row_stays xs x k e = filter-append (λ y. same k (key_of y)) xs (x ∷ []) ∙ ap (λ (b : Bool). row_of xs k ++ cond b (x ∷ []) []) e ∙ append-nil (row_of xs k)

    -- the rows of other keys stay
    rows_stay : (xs : List A) (x : A) (ks : List K) → list_any (same (key_of x)) ks ≡ false → rows_of same key_of ks (xs ++ x ∷ []) ≡ rows_of same key_of ks xs
    rows_stay xs x [] e = refl
    rows_stay xs x (k ∷ ks) e = go (same (key_of x) k) refl e (rows_stay xs x ks)
      where
        go : (b : Bool) → same (key_of x) k ≡ b → (b || list_any (same (key_of x)) ks) ≡ false
            → (list_any (same (key_of x)) ks ≡ false → rows_of same key_of ks (xs ++ x ∷ []) ≡ rows_of same key_of ks xs)
            → row_of (xs ++ x ∷ []) k ∷ rows_of same key_of ks (xs ++ x ∷ []) ≡ row_of xs k ∷ rows_of same key_of ks xs
        go true is e rest = absurd (false≢true (sym e))
        go false is e rest = rw (row_stays xs x k (turned (key_of x) k is), rest e) refl

    first_of_cond : (b : Bool) (k : K) (xs ys : List K) → cond b (k ∷ xs) (k ∷ ys) ≡ k ∷ cond b xs ys
    first_of_cond true k xs ys = refl
    first_of_cond false k xs ys = refl

    rows_gain : (xs : List A) (x : A) (ks : List K) → Apart ks → (list_any (same (key_of x)) ks ≡ false → row_of xs (key_of x) ≡ [])
        → rows_of same key_of (insert_key same ks (key_of x)) (xs ++ x ∷ []) ≡ with_row (position_or_len (same (key_of x)) ks) (rows_of same key_of ks xs) x
    rows_gain xs x [] apart new = rw (row_gains xs x (key_of x) (itself (key_of x)), new refl) refl
    rows_gain xs x (k ∷ ks) apart new = go (same (key_of x) k) refl (λ h. rows_gain xs x ks apart.1 h) new
      where
        go : (b : Bool) → same (key_of x) k ≡ b
            → ((list_any (same (key_of x)) ks ≡ false → row_of xs (key_of x) ≡ []) → rows_of same key_of (insert_key same ks (key_of x)) (xs ++ x ∷ []) ≡ with_row (position_or_len (same (key_of x)) ks) (rows_of same key_of ks xs) x)
            → ((b || list_any (same (key_of x)) ks) ≡ false → row_of xs (key_of x) ≡ [])
            → rows_of same key_of (cond (b || list_any (same (key_of x)) ks) (k ∷ ks) (k ∷ ks ++ key_of x ∷ [])) (xs ++ x ∷ [])
            ≡ with_row (cond (not b) (1 + position_or_len (same (key_of x)) ks) 0) (row_of xs k ∷ rows_of same key_of ks xs) x
        go true is rest new =
            let like : key_of x ≡ k = (decides (key_of x) k).0 is in
            let there : same k (key_of x) ≡ true = (decides k (key_of x)).1 (sym like) in
            let none : list_any (same (key_of x)) ks ≡ false = ap (λ (key : K). list_any (same key) ks) like ∙ apart.0 in
            rw (row_gains xs x k there, rows_stay xs x ks none) refl
        go false is rest new =
            let next : 1 + position_or_len (same (key_of x)) ks ≡ suc (position_or_len (same (key_of x)) ks) = omega arith in
            rw (first_of_cond (list_any (same (key_of x)) ks) k ks (ks ++ key_of x ∷ []), next, row_stays xs x k (turned (key_of x) k is), rest new) refl

    -- no element, and no row
    pub in_no_rows : AreInRows same key_of [] [] []
    in_no_rows = record { order = refl; each = refl }

    -- one more element goes to the row of its key, or in a new one at the end
    pub in_more_rows : (keys : List K) (rows : List (List A)) (xs : List A) (x : A) → AreInRows same key_of keys rows xs
        → AreInRows same key_of (insert_key same keys (key_of x)) (with_row (position_or_len (same (key_of x)) keys) rows x) (xs ++ x ∷ [])
    in_more_rows keys rows xs x h = record {
      order = ap (λ (ks : List K). insert_key same ks (key_of x)) h.order ∙ sym (firsts_push (map key_of xs) (key_of x)) ∙ ap (firsts same) (sym (map_push key_of xs x));
      each =
          ap (λ (rs : List (List A)). with_row (position_or_len (same (key_of x)) keys) rs x) h.each
          ∙ sym (rows_gain xs x keys (subst Apart (sym h.order) (apart-firsts (map key_of xs))) (λ none. no_row (key_of x) xs (sym (any_first (key_of x) (map key_of xs)) ∙ sym (ap (list_any (same (key_of x))) h.order) ∙ none)));
    }

    -- there is a row for each key
    pub rows_count : (keys : List K) (rows : List (List A)) (xs : List A) → AreInRows same key_of keys rows xs → length rows ≡ length keys
    rows_count keys rows xs h = ap length h.each ∙ length-map keys (row_of xs)
