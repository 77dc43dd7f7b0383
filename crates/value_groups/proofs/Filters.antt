-- What passes tests, in a list as it stands and value by value.
use Rattle.std.proofs.Common.{◌≡◌, ℕ, Bool, true, false, cond, List, [], ◌∷◌, ◌++◌, length, map, get_or, refl, sym, ap, subst, ◌∙◌, inl, inr, arith}
use Rattle.std.specs.Prelude.{◌==◌, ◌&&◌, ◌||◌, not, slice_index}
use Rattle.std.specs.List.{All, Contains, filter, flat_map, range_with_len}
use Rattle.std.specs.List.Sorted.{IsPermutation}
use Rattle.std.proofs.lemmas.Bool.{false≢true, cases_eq, eq-eqb, ne_eqb, eqb-true, and_parts}
use Rattle.std.proofs.lemmas.List.{map-append}
use Rattle.std.proofs.lemmas.List.Elements.{All-head, All-tail}
use Rattle.std.proofs.lemmas.List.Sorted.{IsPermutation-refl, IsPermutation-sym, IsPermutation-trans, IsPermutation-append, IsPermutation-filter_both}
use Rattle.std.proofs.lemmas.List.FromFn.{fill_by_all}
use Rattle.pol_bitmap.proofs.Elements.{contains_nothing}
use Rattle.value_groups.specs.Among.{is_among}
use Rattle.value_groups.specs.Inner.Marking.{AreApart}
use Rattle.value_groups.proofs.Anys.{filter_agree}

-- a list has the elements of all its places
pub by_places : (rules : List ℕ) → rules ≡ map (slice_index rules) (range_with_len 0 (length rules))
by_places rules = fill_by_all (slice_index rules) rules (length rules) 0 refl (λ k lt. refl)

pub filter_map_is : (f : ℕ → ℕ) (p : ℕ → Bool) (xs : List ℕ) → filter p (map f xs) ≡ map f (filter (λ x. p (f x)) xs)
filter_map_is f p [] = refl
filter_map_is f p (x ∷ xs) = go (p (f x)) (filter_map_is f p xs)
  where
    go : (b : Bool) → filter p (map f xs) ≡ map f (filter (λ y. p (f y)) xs) → cond b (f x ∷ filter p (map f xs)) (filter p (map f xs)) ≡ map f (cond b (x ∷ filter (λ y. p (f y)) xs) (filter (λ y. p (f y)) xs))
    go true later = ap (λ (ys : List ℕ). f x ∷ ys) later
    go false later = later

pub and_comm : (a b : Bool) → (a && b) ≡ (b && a)
and_comm true true = refl
and_comm true false = refl
and_comm false true = refl
and_comm false false = refl

pub flat_map_agree : (f g : ℕ → List ℕ) (xs : List ℕ) → All (λ e. f e ≡ g e) xs → flat_map f xs ≡ flat_map g xs
flat_map_agree f g [] h = refl
flat_map_agree f g (e ∷ es) h = rw (All-head (λ (e : ℕ). f e ≡ g e) e es h, flat_map_agree f g es (All-tail (λ (e : ℕ). f e ≡ g e) e es h)) refl

pub flat_map_of_maps : (r : ℕ → ℕ) (f : ℕ → List ℕ) (xs : List ℕ) → flat_map (λ e. map r (f e)) xs ≡ map r (flat_map f xs)
flat_map_of_maps r f [] = refl
flat_map_of_maps r f (e ∷ es) = ap (λ (ys : List ℕ). map r (f e) ++ ys) (flat_map_of_maps r f es) ∙ sym (map-append r (f e) (flat_map f es))

pub not_empty : {X : Type 0} (xs : List X) (x : X) → Contains xs x → not (length xs == 0) ≡ true
not_empty [] x there = absurd (contains_nothing x there)
not_empty (y ∷ ys) x there = ap not (ne_eqb (length (y ∷ ys)) 0 (λ e. omega (arith, e)))

-- ---- groups of some values

abbrev either : (ℕ → Bool) → (ℕ → Bool) → List ℕ → List ℕ
either p q xs = filter (λ x. p x || q x) xs

either_first : (p q : ℕ → Bool) (xs : List ℕ) → filter p (either p q xs) ≡ filter p xs
either_first p q [] = refl
either_first p q (x ∷ xs) = go (p x) refl (q x) (either_first p q xs)
  where
    go : (a : Bool) → p x ≡ a → (b : Bool) → filter p (either p q xs) ≡ filter p xs → filter p (cond (a || b) (x ∷ either p q xs) (either p q xs)) ≡ cond a (x ∷ filter p xs) (filter p xs)
    go true e b later = ap (λ (c : Bool). cond c (x ∷ filter p (either p q xs)) (filter p (either p q xs))) e ∙ ap (λ (ys : List ℕ). x ∷ ys) later
    go false e true later = ap (λ (c : Bool). cond c (x ∷ filter p (either p q xs)) (filter p (either p q xs))) e ∙ later
    go false e false later = later

either_second : (p q : ℕ → Bool) (xs : List ℕ) → ((x : ℕ) → p x ≡ true → q x ≡ true → ⊥) → filter (λ x. not (p x)) (either p q xs) ≡ filter q xs
either_second p q [] apart = refl
either_second p q (x ∷ xs) apart = go (p x) refl (q x) refl (either_second p q xs apart)
  where
    go : (a : Bool) → p x ≡ a → (b : Bool) → q x ≡ b → filter (λ y. not (p y)) (either p q xs) ≡ filter q xs → filter (λ y. not (p y)) (cond (a || b) (x ∷ either p q xs) (either p q xs)) ≡ cond b (x ∷ filter q xs) (filter q xs)
    go true e true f later = absurd (apart x e f)
    go true e false f later = ap (λ (c : Bool). cond (not c) (x ∷ filter (λ y. not (p y)) (either p q xs)) (filter (λ y. not (p y)) (either p q xs))) e ∙ later
    go false e true f later = ap (λ (c : Bool). cond (not c) (x ∷ filter (λ y. not (p y)) (either p q xs)) (filter (λ y. not (p y)) (either p q xs))) e ∙ ap (λ (ys : List ℕ). x ∷ ys) later
    go false e false f later = later

-- what passes two tests that exclude each other
filter_either : (p q : ℕ → Bool) (xs : List ℕ) → ((x : ℕ) → p x ≡ true → q x ≡ true → ⊥) → IsPermutation (either p q xs) (filter p xs ++ filter q xs)
filter_either p q xs apart =
    let same : filter p (either p q xs) ++ filter (λ x. not (p x)) (either p q xs) ≡ filter p xs ++ filter q xs =
    ap (λ (ys : List ℕ). ys ++ filter (λ x. not (p x)) (either p q xs)) (either_first p q xs) ∙ ap (λ (ys : List ℕ). filter p xs ++ ys) (either_second p q xs apart) in
    subst (λ (ys : List ℕ). IsPermutation (either p q xs) ys) same (IsPermutation-filter_both p (λ x. not (p x)) (λ x. refl) (either p q xs))

pub filter_twice : (p q : ℕ → Bool) (xs : List ℕ) → filter q (filter p xs) ≡ filter (λ x. p x && q x) xs
filter_twice p q [] = refl
filter_twice p q (x ∷ xs) = go (p x) (filter_twice p q xs)
  where
    go : (a : Bool) → filter q (filter p xs) ≡ filter (λ y. p y && q y) xs → filter q (cond a (x ∷ filter p xs) (filter p xs)) ≡ cond (a && q x) (x ∷ filter (λ y. p y && q y) xs) (filter (λ y. p y && q y) xs)
    go true later = ap (λ (ys : List ℕ). cond (q x) (x ∷ ys) ys) later
    go false later = later

pub filter_never : (xs : List ℕ) → filter (λ x. false) xs ≡ []
filter_never [] = refl
filter_never (x ∷ xs) = filter_never xs

eqb_sym : (a b : ℕ) → (a == b) ≡ (b == a)
eqb_sym a b = elim (cases_eq a b) [
  | inl e ↦ eq-eqb a b e ∙ sym (eq-eqb b a (sym e))
  | inr n ↦ ne_eqb a b n ∙ sym (ne_eqb b a (λ e. n (sym e)))
]

and_over : (a b q : Bool) → ((a && q) || (b && q)) ≡ ((a || b) && q)
and_over true b true = refl
and_over true true false = refl
and_over true false false = refl
and_over false true q = refl
and_over false false q = refl

clash_at : (key : ℕ → ℕ) (q : ℕ → Bool) (e : ℕ) (es : List ℕ) (x : ℕ) → is_among es e ≡ false → ((key x == e) && q x) ≡ true → (is_among es (key x) && q x) ≡ true → ⊥
clash_at key q e es x new t u =
    let is = eqb-true (key x) e (and_parts (key x == e) (q x) t).0 in
    let among = (and_parts (is_among es (key x)) (q x) u).0 in
    false≢true (sym new ∙ ap (is_among es) (sym is) ∙ among)

-- what has a key among some, key by key and all at once
pub grouped_by : (key : ℕ → ℕ) (q : ℕ → Bool) (xs ends : List ℕ) → AreApart ends → IsPermutation (flat_map (λ end. filter q (filter (λ x. key x == end) xs)) ends) (filter (λ x. is_among ends (key x) && q x) xs)
grouped_by key q xs [] apart = subst (λ (ys : List ℕ). IsPermutation [] ys) (sym (filter_never xs)) (IsPermutation-refl [])
grouped_by key q xs (e ∷ es) apart =
    let own = λ (x : ℕ). (key x == e) && q x in
    let rest = λ (x : ℕ). is_among es (key x) && q x in
    let first : filter q (filter (λ x. key x == e) xs) ≡ filter own xs = filter_twice (λ x. key x == e) q xs in
    let both = IsPermutation-append (filter q (filter (λ x. key x == e) xs)) (filter own xs) (flat_map (λ end. filter q (filter (λ x. key x == end) xs)) es) (filter rest xs)
    (subst (λ (ys : List ℕ). IsPermutation (filter q (filter (λ x. key x == e) xs)) ys) first (IsPermutation-refl (filter q (filter (λ x. key x == e) xs)))) (grouped_by key q xs es apart.1) in
    let either = filter_either own rest xs (λ x t u. clash_at key q e es x apart.0 t u) in
    let same : filter (λ x. own x || rest x) xs ≡ filter (λ x. is_among (e ∷ es) (key x) && q x) xs =
    filter_agree (λ x. own x || rest x) (λ x. is_among (e ∷ es) (key x) && q x) xs
    (λ k d lt. let x = get_or xs k d in and_over (key x == e) (is_among es (key x)) (q x) ∙ ap (λ (b : Bool). (b || is_among es (key x)) && q x) (eqb_sym (key x) e)) in
    subst (λ (ys : List ℕ). IsPermutation (flat_map (λ end. filter q (filter (λ x. key x == end) xs)) (e ∷ es)) ys) same
    (IsPermutation-trans (flat_map (λ end. filter q (filter (λ x. key x == end) xs)) (e ∷ es)) (filter own xs ++ filter rest xs) (filter (λ x. own x || rest x) xs) both
    (IsPermutation-sym (filter (λ x. own x || rest x) xs) (filter own xs ++ filter rest xs) either))
