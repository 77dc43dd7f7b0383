-- Lists with the same elements in another order.
use Rattle.std.proofs.Common.{◌≡◌, ℕ, zero, suc, ◌<◌, Bool, true, false, cond, List, [], ◌∷◌, ◌++◌, length, map, get_or, set, swap, refl, sym, ap, subst, ◌∙◌, arith}
use Rattle.std.specs.Prelude.{◌==◌, ◌||◌}
use Rattle.std.specs.List.{All, filter, flat_map}
use Rattle.std.specs.List.Sorted.{IsPermutation}
use Rattle.std.proofs.lemmas.Bool.{false≢true, eqb-true}
use Rattle.std.proofs.lemmas.List.Elements.{All-head, All-tail}
use Rattle.std.proofs.lemmas.List.Sorted.{IsPermutation-append, IsPermutation-append_right, IsPermutation-cons, IsPermutation-keeps, IsPermutation-middle, IsPermutation-refl, IsPermutation-trans}
use Rattle.value_groups.specs.Among.{is_among}
use Rattle.value_groups.specs.Inner.Marking.{AreApart}

permuted_same : {X : Type 0} (xs ys : List X) → xs ≡ ys → IsPermutation xs ys
permuted_same xs ys e = subst (IsPermutation xs) e (IsPermutation-refl xs)

-- A relation holds along each permutation if it is reflexive and transitive, and goes under a head and over an exchange of two heads.
module _ {X : Type 0} (R : List X → List X → Type 0) (same : (xs : List X) → R xs xs) (skip : (x : X) (xs ys : List X) → R xs ys → R (x ∷ xs) (x ∷ ys)) (turn : (x y : X) (xs : List X) → R (x ∷ y ∷ xs) (y ∷ x ∷ xs))
    (chain : (xs ys zs : List X) → R xs ys → R ys zs → R xs zs) where
  to_head : (xs : List X) (j : ℕ) (x d : X) → j < length xs → R (x ∷ xs) (get_or xs j d ∷ set xs j x)
  to_head [] j x d lt = absurd (omega arith)
  to_head (y ∷ ys) zero x d lt = turn x y ys
  to_head (y ∷ ys) (suc j) x d lt =
      chain (x ∷ y ∷ ys) (y ∷ x ∷ ys) (get_or ys j d ∷ y ∷ set ys j x) (turn x y ys)
      (chain (y ∷ x ∷ ys) (y ∷ get_or ys j d ∷ set ys j x) (get_or ys j d ∷ y ∷ set ys j x) (skip y (x ∷ ys) (get_or ys j d ∷ set ys j x) (to_head ys j x d (omega arith))) (turn y (get_or ys j d) (set ys j x)))

  exchanged : (xs : List X) (i j : ℕ) (d : X) → i < length xs → j < length xs → R xs (set (set xs i (get_or xs j d)) j (get_or xs i d))
  exchanged [] i j d p q = absurd (omega arith)
  exchanged (x ∷ xs) zero zero d p q = same (x ∷ xs)
  exchanged (x ∷ xs) zero (suc j) d p q = to_head xs j x d (omega arith)
  exchanged (x ∷ xs) (suc i) zero d p q = to_head xs i x d (omega arith)
  exchanged (x ∷ xs) (suc i) (suc j) d p q = skip x xs (set (set xs i (get_or xs j d)) j (get_or xs i d)) (exchanged xs i j d (omega arith) (omega arith))

  swapped : (xs : List X) (i j : ℕ) → i < length xs → j < length xs → R xs (swap xs i j)
  swapped [] i j p q = same []
  swapped (x ∷ xs) i j p q = exchanged (x ∷ xs) i j x p q

  along : (xs ys : List X) → IsPermutation xs ys → R xs ys
  along xs = IsPermutation-keeps xs (R xs) (same xs) (λ l i j p q h. chain xs l (swap l i j) h (swapped l i j p q))

-- ---- what passes a test

module _ {X : Type 0} (p : X → Bool) where
  one_kept : (b : Bool) (x : X) (us vs : List X) → IsPermutation us vs → IsPermutation (cond b (x ∷ us) us) (cond b (x ∷ vs) vs)
  one_kept true x us vs h = IsPermutation-cons x us vs h
  one_kept false x us vs h = h

  two_kept : (a b : Bool) (x y : X) (zs : List X) → IsPermutation (cond a (x ∷ cond b (y ∷ zs) zs) (cond b (y ∷ zs) zs)) (cond b (y ∷ cond a (x ∷ zs) zs) (cond a (x ∷ zs) zs))
  two_kept true true x y zs = IsPermutation-middle (x ∷ []) y zs
  two_kept true false x y zs = IsPermutation-refl (x ∷ zs)
  two_kept false true x y zs = IsPermutation-refl (y ∷ zs)
  two_kept false false x y zs = IsPermutation-refl zs

  pub filter_permuted : (xs ys : List X) → IsPermutation xs ys → IsPermutation (filter p xs) (filter p ys)
  filter_permuted = along (λ xs ys. IsPermutation (filter p xs) (filter p ys))
      (λ xs. IsPermutation-refl (filter p xs))
      (λ x xs ys h. one_kept (p x) x (filter p xs) (filter p ys) h)
      (λ x y xs. two_kept (p x) (p y) x y (filter p xs))
      (λ xs ys zs. IsPermutation-trans (filter p xs) (filter p ys) (filter p zs))

-- ---- what is found end by end

-- each part may be put in another order
pub parts_permuted : (f g : ℕ → List ℕ) (xs : List ℕ) → All (λ x. IsPermutation (f x) (g x)) xs → IsPermutation (flat_map f xs) (flat_map g xs)
parts_permuted f g [] h = IsPermutation-refl []
parts_permuted f g (x ∷ xs) h =
    IsPermutation-append (f x) (g x) (flat_map f xs) (flat_map g xs) (All-head (λ (x : ℕ). IsPermutation (f x) (g x)) x xs h) (parts_permuted f g xs (All-tail (λ (x : ℕ). IsPermutation (f x) (g x)) x xs h))

-- one element more at the end that is its key
module _ (x key : ℕ) (f : ℕ → List ℕ) where
  abbrev with_one : ℕ → List ℕ
  with_one end = cond (end == key) (x ∷ f end) (f end)

  one_before : (a c : Bool) (first later rest : List ℕ) → IsPermutation later (cond c (x ∷ rest) rest) → (a ≡ true → c ≡ false) → IsPermutation (cond a (x ∷ first) first ++ later) (cond (a || c) (x ∷ (first ++ rest)) (first ++ rest))
  one_before true true first later rest h apart = absurd (false≢true (sym (apart refl)))
  one_before true false first later rest h apart = IsPermutation-append_right (x ∷ first) later rest h
  one_before false true first later rest h apart =
      IsPermutation-trans (first ++ later) (first ++ x ∷ rest) (x ∷ (first ++ rest)) (IsPermutation-append_right first later (x ∷ rest) h) (IsPermutation-middle first x rest)
  one_before false false first later rest h apart = IsPermutation-append_right first later rest h

  one_more : (ends : List ℕ) → AreApart ends → IsPermutation (flat_map with_one ends) (cond (is_among ends key) (x ∷ flat_map f ends) (flat_map f ends))
  one_more [] apart = IsPermutation-refl []
  one_more (end ∷ ends) apart =
      one_before (end == key) (is_among ends key) (f end) (flat_map with_one ends) (flat_map f ends) (one_more ends apart.1) (λ t. ap (is_among ends) (sym (eqb-true end key t)) ∙ apart.0)

-- what has one of some ends as its key
module _ {X : Type 0} (number key : X → ℕ) where
  abbrev at_end : List X → ℕ → List ℕ
  at_end xs end = map number (filter (λ x. end == key x) xs)

  abbrev at_ends : List X → List ℕ → List ℕ
  at_ends xs ends = map number (filter (λ x. is_among ends (key x)) xs)

  mapped : (b : Bool) (x : X) (xs : List X) → map number (cond b (x ∷ xs) xs) ≡ cond b (number x ∷ map number xs) (map number xs)
  mapped true x xs = refl
  mapped false x xs = refl

  nothing : (ends : List ℕ) → flat_map (at_end []) ends ≡ []
  nothing [] = refl
  nothing (end ∷ ends) = nothing ends

  numbered : (b : Bool) (n : ℕ) (us vs : List ℕ) → IsPermutation us vs → IsPermutation (cond b (n ∷ us) us) (cond b (n ∷ vs) vs)
  numbered true n us vs h = IsPermutation-cons n us vs h
  numbered false n us vs h = h

  -- end by end and all at once
  pub end_by_end : (xs : List X) (ends : List ℕ) → AreApart ends → IsPermutation (flat_map (at_end xs) ends) (at_ends xs ends)
  end_by_end [] ends apart = permuted_same (flat_map (at_end []) ends) [] (nothing ends)
  end_by_end (x ∷ xs) ends apart =
      let b = is_among ends (key x) in
      let each : flat_map (at_end (x ∷ xs)) ends ≡ flat_map (with_one (number x) (key x) (at_end xs)) ends =
      λ i. flat_map (λ end. mapped (end == key x) x (filter (λ y. end == key y) xs) i) ends in
      let all = mapped b x (filter (λ y. is_among ends (key y)) xs) in
      subst (λ (us : List ℕ). IsPermutation us (at_ends (x ∷ xs) ends)) (sym each)
      (subst (λ (vs : List ℕ). IsPermutation (flat_map (with_one (number x) (key x) (at_end xs)) ends) vs) (sym all)
      (IsPermutation-trans (flat_map (with_one (number x) (key x) (at_end xs)) ends) (cond b (number x ∷ flat_map (at_end xs) ends) (flat_map (at_end xs) ends)) (cond b (number x ∷ at_ends xs ends) (at_ends xs ends))
      (one_more (number x) (key x) (at_end xs) ends apart) (numbered b (number x) (flat_map (at_end xs) ends) (at_ends xs ends) (end_by_end xs ends apart))))
