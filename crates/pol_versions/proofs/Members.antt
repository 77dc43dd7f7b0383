-- What is in lists that are made of others.
use Rattle.std.proofs.Common.{◌≡◌, inl, inr, List, [], ◌∷◌, ◌++◌, map, refl, subst}
use Rattle.std.specs.List.{Contains, flat_map}
use Rattle.std.proofs.lemmas.List.Elements.{Contains-append_cases, Contains-append_left, Contains-append_right}
use Rattle.pol_bitmap.proofs.Elements.{contains_nothing, contains_one, contains_first}
use Rattle.pol_versions.specs.KeptRecords.{HasSame}

-- an element is the first one, or one of the others
pub of_first : {A : Type 0} (P : A → Type 0) (x : A) (xs : List A) (y : A) → P x → (Contains xs y → P y) → Contains (x ∷ xs) y → P y
of_first P x xs y first others h = elim (Contains-append_cases (x ∷ []) xs y h) [
  | inl one ↦ subst P (contains_one y x one) first
  | inr rest ↦ others rest
]

pub contains_map : {A B : Type 0} (f : A → B) (xs : List A) (x : A) → Contains xs x → Contains (map f xs) (f x)
contains_map f [] x h = absurd (contains_nothing x h)
contains_map {A} {B} f (y ∷ ys) x h = of_first (λ (x : A). Contains (map f (y ∷ ys)) (f x)) y ys x (contains_first (f y) (map f ys)) (λ rest. Contains-append_right (f y ∷ []) (map f ys) (f x) (contains_map f ys x rest)) h

-- what an element was made of
pub record MadeOf {A B : Type 0} (f : A → B) (xs : List A) (y : B) : Type 0 where
  pub of : A
  pub there : Contains xs of
  pub is : f of ≡ y

pub map_contains : {A B : Type 0} (f : A → B) (xs : List A) (y : B) → Contains (map f xs) y → MadeOf f xs y
map_contains f [] y h = absurd (contains_nothing y h)
map_contains {A} {B} f (x ∷ xs) y h =
    of_first (λ (y : B). MadeOf f (x ∷ xs) y) (f x) (map f xs) y (record { of = x; there = contains_first x xs; is = refl })
    (λ rest. let m = map_contains f xs y rest in record { of = m.of; there = Contains-append_right (x ∷ []) xs m.of m.there; is = m.is }) h

pub contains_flat : {A B : Type 0} (f : A → List B) (xs : List A) (x : A) (y : B) → Contains xs x → Contains (f x) y → Contains (flat_map f xs) y
contains_flat f [] x y h k = absurd (contains_nothing x h)
contains_flat {A} {B} f (z ∷ zs) x y h k =
    of_first (λ (x : A). Contains (f x) y → Contains (flat_map f (z ∷ zs)) y) z zs x (λ first. Contains-append_left (f z) (flat_map f zs) y first)
    (λ rest here. Contains-append_right (f z) (flat_map f zs) y (contains_flat f zs x y rest here)) h k

-- whose part an element is in
pub record PartOf {A B : Type 0} (f : A → List B) (xs : List A) (y : B) : Type 0 where
  pub of : A
  pub there : Contains xs of
  pub within : Contains (f of) y

pub flat_contains : {A B : Type 0} (f : A → List B) (xs : List A) (y : B) → Contains (flat_map f xs) y → PartOf f xs y
flat_contains f [] y h = absurd (contains_nothing y h)
flat_contains f (x ∷ xs) y h = elim (Contains-append_cases (f x) (flat_map f xs) y h) [
  | inl first ↦ record { of = x; there = contains_first x xs; within = first }
  | inr rest ↦ let m = flat_contains f xs y rest in record { of = m.of; there = Contains-append_right (x ∷ []) xs m.of m.there; within = m.within }
]

-- ---- lists that have the same

pub same_itself : {A : Type 0} (a : List A) → HasSame a a
same_itself a = record { each = λ x. (λ h. h, λ h. h) }

pub same_append : {A : Type 0} (a b c d : List A) → HasSame a b → HasSame c d → HasSame (a ++ c) (b ++ d)
same_append {A} a b c d h k = record { each = λ x. (one a b c d h k x, one b a d c (record { each = λ x. ((h.each x).1, (h.each x).0) }) (record { each = λ x. ((k.each x).1, (k.each x).0) }) x) }
  where
    one : (a b c d : List A) → HasSame a b → HasSame c d → (x : A) → Contains (a ++ c) x → Contains (b ++ d) x
    one a b c d h k x m = elim (Contains-append_cases a c x m) [
      | inl first ↦ Contains-append_left b d x ((h.each x).0 first)
      | inr rest ↦ Contains-append_right b d x ((k.each x).0 rest)
    ]

pub same_map : {A B : Type 0} (f : A → B) (xs ys : List A) → HasSame xs ys → HasSame (map f xs) (map f ys)
same_map {A} {B} f xs ys h = record { each = λ y. (one xs ys (λ x m. (h.each x).0 m) y, one ys xs (λ x m. (h.each x).1 m) y) }
  where
    one : (xs ys : List A) → ((x : A) → Contains xs x → Contains ys x) → (y : B) → Contains (map f xs) y → Contains (map f ys) y
    one xs ys h y m = let made = map_contains f xs y m in subst (Contains (map f ys)) made.is (contains_map f ys made.of (h made.of made.there))

pub same_flat : {A B : Type 0} (f g : A → List B) (xs : List A) → ((x : A) → HasSame (f x) (g x)) → HasSame (flat_map f xs) (flat_map g xs)
same_flat f g [] h = same_itself []
same_flat f g (x ∷ xs) h = same_append (f x) (g x) (flat_map f xs) (flat_map g xs) (h x) (same_flat f g xs h)
