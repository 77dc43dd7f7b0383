-- Lists in which each element stands before those after it.
use Rattle.std.proofs.Common.{◌≡◌, ◌⊎◌, inl, inr, ℕ, zero, suc, ◌+◌, ◌<◌, Bool, true, false, cond, List, [], ◌∷◌, ◌++◌, length, map, get_or, refl, sym, ap, subst, arith, Some, slice_get, add-one}
use Rattle.std.specs.Prelude.{slice_index}
use Rattle.std.specs.List.{Contains, AllByRecursion, filter, range_with_len}
use Rattle.std.specs.List.Sorted.{IsStrictlyIncreasing, IsStrictlySortedBy}
use Rattle.std.specs.Cmp.Lexicographic.{slice_cmp}
use Rattle.std.specs.Ordering.{nat_cmp}
use Rattle.std.specs.declared.cmp.Ordering.TheVariants.{Less, Equal}
use Rattle.std.proofs.lemmas.List.Elements.{Contains-append_cases, Contains-append_right}
use Rattle.std.proofs.lemmas.Bool.{cases_order}
use Rattle.std.proofs.lemmas.Option.{slice_get_within, get_or_from_slice_get}
use Rattle.walk_enum.proofs.Elements.{not_in_nothing, in_cases, in_first, in_rest, from_filter, range_high, from_map}

abbrev pub Ascends : {X : Type 0} → (X → X → Type 0) → List X → Type 0
Ascends R [] = Unit {0}
Ascends {X} R (x ∷ xs) = ((y : X) → Contains xs y → R x y) × Ascends R xs

-- ---- numbers

two : (k : ℕ) → suc k + 1 ≡ suc (k + 1)
two k = omega arith

pub increasing_tail : (x : ℕ) (xs : List ℕ) → IsStrictlyIncreasing (x ∷ xs) → IsStrictlyIncreasing xs
increasing_tail x xs h k lt = subst (λ (i : ℕ). slice_index (x ∷ xs) (suc k) < slice_index (x ∷ xs) i) (two k) (h (suc k) (omega (arith, lt)))

above_first : (x : ℕ) (xs : List ℕ) (y : ℕ) → IsStrictlyIncreasing (x ∷ xs) → Contains xs y → x < y
above_first x [] y h has = not_in_nothing y has
above_first x (z ∷ zs) y h has =
    let first : x < z = h 0 (omega arith) in
    elim (in_cases z zs y has) [
      | inl same ↦ omega (arith, first, same)
      | inr rest ↦ omega (arith, first, above_first z zs y (increasing_tail x (z ∷ zs) h) rest)
    ]

pub ascends_from_increasing : (xs : List ℕ) → IsStrictlyIncreasing xs → Ascends ◌<◌ xs
ascends_from_increasing [] h = tt
ascends_from_increasing (x ∷ xs) h = ((λ y has. above_first x xs y h has), ascends_from_increasing xs (increasing_tail x xs h))

pub increasing_from_ascends : (xs : List ℕ) → Ascends ◌<◌ xs → IsStrictlyIncreasing xs
increasing_from_ascends [] h k lt = absurd (omega (arith, lt))
increasing_from_ascends (x ∷ []) h k lt = absurd (omega (arith, lt))
increasing_from_ascends (x ∷ y ∷ ys) h zero lt = h.0 y (in_first y ys)
increasing_from_ascends (x ∷ y ∷ ys) h (suc k) lt = subst (λ (i : ℕ). slice_index (y ∷ ys) k < slice_index (x ∷ y ∷ ys) i) (sym (two k)) (increasing_from_ascends (y ∷ ys) h.1 k (omega (arith, lt)))

pub ascends_filter : (p : ℕ → Bool) (xs : List ℕ) → Ascends ◌<◌ xs → Ascends ◌<◌ (filter p xs)
ascends_filter p [] h = tt
ascends_filter p (x ∷ xs) h = by (p x) (ascends_filter p xs h.1)
  where
    by : (b : Bool) → Ascends ◌<◌ (filter p xs) → Ascends ◌<◌ (cond b (x ∷ filter p xs) (filter p xs))
    by true rest = ((λ y has. h.0 y (from_filter p xs y has)), rest)
    by false rest = rest

pub ascends_range : (a n : ℕ) → Ascends ◌<◌ (range_with_len a n)
ascends_range a zero = tt
ascends_range a (suc n) = ((λ y has. omega (arith, (range_high (a + 1) n y has).0)), ascends_range (a + 1) n)

-- Rising lists with the same numbers are one.
pub same_numbers : (xs ys : List ℕ) → Ascends ◌<◌ xs → Ascends ◌<◌ ys → ((x : ℕ) → Contains xs x → Contains ys x) → ((x : ℕ) → Contains ys x → Contains xs x) → xs ≡ ys
same_numbers [] [] h k to back = refl
same_numbers [] (y ∷ ys) h k to back = not_in_nothing y (back y (in_first y ys))
same_numbers (x ∷ xs) [] h k to back = not_in_nothing x (to x (in_first x xs))
same_numbers (x ∷ xs) (y ∷ ys) h k to back =
    let e : x ≡ y = heads (in_cases y ys x (to x (in_first x xs))) (in_cases x xs y (back y (in_first y ys))) in
    let rest : xs ≡ ys = same_numbers xs ys h.1 k.1
    (λ z has. later y ys z (in_cases y ys z (to z (in_rest x xs z has))) (subst (λ (v : ℕ). v < z) e (h.0 z has)))
    (λ z has. later x xs z (in_cases x xs z (back z (in_rest y ys z has))) (subst (λ (v : ℕ). v < z) (sym e) (k.0 z has))) in
    rw (e, rest) refl
  where
    heads : (y ≡ x) ⊎ Contains ys x → (x ≡ y) ⊎ Contains xs y → x ≡ y
    heads (inl e) b = sym e
    heads (inr has) (inl e) = e
    heads (inr has) (inr also) = absurd (omega (arith, k.0 x has, h.0 y also))

    later : (w : ℕ) (ws : List ℕ) (z : ℕ) → (w ≡ z) ⊎ Contains ws z → w < z → Contains ws z
    later w ws z (inl e) lt = absurd (omega (arith, e, lt))
    later w ws z (inr has) lt = has

-- ---- any lists

pub ascends_append : {X : Type 0} (R : X → X → Type 0) (xs ys : List X) → Ascends R xs → Ascends R ys → ((x y : X) → Contains xs x → Contains ys y → R x y) → Ascends R (xs ++ ys)
ascends_append R [] ys h k across = k
ascends_append {X} R (x ∷ xs) ys h k across =
    ((λ y has. by y (Contains-append_cases xs ys y has)), ascends_append R xs ys h.1 k (λ a b in_a in_b. across a b (in_rest x xs a in_a) in_b))
  where
    by : (y : X) → Contains xs y ⊎ Contains ys y → R x y
    by y (inl has) = h.0 y has
    by y (inr has) = across x y (in_first x xs) has

-- ---- walks in lexicographic order

abbrev pub Before : List ℕ → List ℕ → Type 0
Before v w = slice_cmp nat_cmp v w ≡ Less

pub cmp_self : (a : ℕ) → nat_cmp a a ≡ Equal
cmp_self a = search (arith)

pub cmp_less : (a b : ℕ) → a < b → nat_cmp a b ≡ Less
cmp_less a b lt = search (arith)

pub before_cons : (a : ℕ) (v w : List ℕ) → Before v w → Before (a ∷ v) (a ∷ w)
before_cons a v w h = rw (cmp_self a) h

pub before_head : (a b : ℕ) (v w : List ℕ) → a < b → Before (a ∷ v) (b ∷ w)
before_head a b v w lt = rw (cmp_less a b lt) refl

pub not_before_itself : {P : Type 0} (v : List ℕ) → Before v v → P
not_before_itself [] h = absurd cc
not_before_itself (a ∷ v) h = not_before_itself v (rw (cmp_self a) at h)

pub ascends_map : (a : ℕ) (ws : List (List ℕ)) → Ascends Before ws → Ascends Before (map (λ w. a ∷ w) ws)
ascends_map a [] h = tt
ascends_map a (w ∷ ws) h = ((λ y has. by y (from_map (λ w. a ∷ w) ws y has)), ascends_map a ws h.1)
  where
    by : (y : List ℕ) → (v : List ℕ) × Contains ws v × ((a ∷ v) ≡ y) → Before (a ∷ w) y
    by y (v, has, is) = subst (Before (a ∷ w)) is (before_cons a w v (h.0 v has))

pub sorted_from_ascends : (ws : List (List ℕ)) → Ascends Before ws → IsStrictlySortedBy (slice_cmp nat_cmp) ws
unfolding IsStrictlySortedBy
sorted_from_ascends [] h = tt
sorted_from_ascends (w ∷ ws) h = (all ws h.0, sorted_from_ascends ws h.1)
  where
    all : (vs : List (List ℕ)) → ((y : List ℕ) → Contains vs y → Before w y) → AllByRecursion (λ y. slice_cmp nat_cmp w y ≡ Less) vs
    all [] h = tt
    all (v ∷ vs) h = (h v (in_first v vs), all vs (λ y has. h y (in_rest v vs y has)))

pub in_from_get : {X : Type 0} (xs : List X) (i : ℕ) (x : X) → slice_get xs i ≡ Some x → Contains xs x
in_from_get xs i x e = (i, slice_get_within xs i x e, get_or_from_slice_get xs i x x e)

-- One of them is at one place.
pub one_place : (ws : List (List ℕ)) (v : List ℕ) (i j : ℕ) → Ascends Before ws → slice_get ws i ≡ Some v → slice_get ws j ≡ Some v → i ≡ j
one_place [] v i j h e f = absurd (omega (arith, slice_get_within [] i v e))
one_place (w ∷ ws) v zero zero h e f = refl
one_place (w ∷ ws) v zero (suc j) h e f =
    let is : w ≡ v = cc in
    not_before_itself v (subst (λ (u : List ℕ). Before u v) is (h.0 v (in_from_get ws j v f)))
one_place (w ∷ ws) v (suc i) zero h e f =
    let is : w ≡ v = cc in
    not_before_itself v (subst (λ (u : List ℕ). Before u v) is (h.0 v (in_from_get ws i v e)))
one_place (w ∷ ws) v (suc i) (suc j) h e f = ap suc (one_place ws v i j h.1 e f)

pub ascends_parts : {X : Type 0} (R : X → X → Type 0) (xs ys : List X) → Ascends R (xs ++ ys) → Ascends R ys × ((x y : X) → Contains xs x → Contains ys y → R x y)
ascends_parts R [] ys h = (h, λ x y in_x in_y. not_in_nothing x in_x)
ascends_parts {X} R (z ∷ zs) ys h = let p = ascends_parts R zs ys h.1 in (p.0, λ x y in_x in_y. by p.1 x y (in_cases z zs x in_x) in_y)
  where
    by : ((x y : X) → Contains zs x → Contains ys y → R x y) → (x y : X) → (z ≡ x) ⊎ Contains zs x → Contains ys y → R x y
    by rest x y (inl e) in_y = subst (λ (v : X). R v y) e (h.0 y (Contains-append_right zs ys y in_y))
    by rest x y (inr has) in_y = rest x y has in_y

pub increasing_at : (xs : List ℕ) → IsStrictlyIncreasing xs → (i j : ℕ) → i < j → j < length xs → get_or xs i 0 < get_or xs j 0
increasing_at xs h i zero lt within = absurd (omega (arith, lt))
increasing_at xs h i (suc j) lt within =
    let here : get_or xs j 0 < get_or xs (suc j) 0 = subst (λ (n : ℕ). get_or xs j 0 < get_or xs n 0) (add-one j) (h j (omega (arith, within))) in
    elim (cases_order i j) [
      | inl e ↦ subst (λ (n : ℕ). get_or xs n 0 < get_or xs (suc j) 0) (sym e) here
      | inr (inl less) ↦ omega (arith, here, increasing_at xs h i j less (omega (arith, within)))
      | inr (inr more) ↦ absurd (omega (arith, lt, more))
    ]
