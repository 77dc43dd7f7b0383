-- Items of lists, and where they come from.
use Rattle.std.proofs.Common.{◌≡◌, ℕ, zero, suc, ◌+◌, ◌<◌, Bool, true, false, Some, List, [], ◌∷◌, ◌++◌, length, map, slice_get, refl, ap, subst, ◌∙◌, arith}
use Rattle.std.specs.Prelude.{if◌then◌else◌}
use Rattle.std.specs.List.{flat_map, filter, enumerate_from}
use Rattle.std.proofs.lemmas.Option.{same_Some}
use Rattle.pol_read.specs.Inner.RuleNumbers.{has_items}

-- what gives nothing may be left out
module _ {X A : Type 0} (f : X → List A) where
  abbrev gives : X → Bool
  gives x = has_items (f x)

  pub kept : (xs : List X) → flat_map f (filter gives xs) ≡ flat_map f xs
  kept [] = refl
  kept (x ∷ xs) = by (f x) refl (kept xs)
    where
      by : (ys : List A) → f x ≡ ys → flat_map f (filter gives xs) ≡ flat_map f xs → flat_map f (if has_items ys then x ∷ filter gives xs else filter gives xs) ≡ ys ++ flat_map f xs
      by [] e rest = rest
      by (y ∷ ys) e rest = ap (λ (z : List A). z ++ flat_map f (filter gives xs)) e ∙ ap (λ (z : List A). (y ∷ ys) ++ z) rest

-- an item of a list
pub record Among {X : Type 0} (xs : List X) (x : X) : Type 0 where
  pub index : ℕ
  pub at : slice_get xs index ≡ Some x

pub of_both : {X R : Type 0} (xs ys : List X) (k : ℕ) (x : X) → slice_get (xs ++ ys) k ≡ Some x → (Among xs x → R) → (Among ys x → R) → R
of_both [] ys k x e left right = right (record { index = k; at = e })
of_both (z ∷ xs) ys zero x e left right = left (record { index = 0; at = e })
of_both (z ∷ xs) ys (suc k) x e left right = of_both xs ys k x e (λ a. left (record { index = suc a.index; at = a.at })) right

pub of_filter : {X : Type 0} (p : X → Bool) (xs : List X) (k : ℕ) (x : X) → slice_get (filter p xs) k ≡ Some x → Among xs x
of_filter p [] k x e = absurd cc
of_filter {X} p (y ∷ ys) k x e = by (λ j at. of_filter p ys j x at) (p y) k e
  where
    later : Among ys x → Among (y ∷ ys) x
    later a = record { index = suc a.index; at = a.at }

    by : ((j : ℕ) → slice_get (filter p ys) j ≡ Some x → Among ys x) → (b : Bool) (k : ℕ) → slice_get (if b then y ∷ filter p ys else filter p ys) k ≡ Some x → Among (y ∷ ys) x
    by others true zero e = record { index = 0; at = e }
    by others true (suc k) e = later (others k e)
    by others false k e = later (others k e)

pub record Mapped {X Y : Type 0} (f : X → Y) (xs : List X) (k : ℕ) (y : Y) : Type 0 where
  pub item : X
  pub at : slice_get xs k ≡ Some item
  pub gives : f item ≡ y

pub of_map : {X Y : Type 0} (f : X → Y) (xs : List X) (k : ℕ) (y : Y) → slice_get (map f xs) k ≡ Some y → Mapped f xs k y
of_map f [] k y e = absurd cc
of_map f (x ∷ xs) zero y e = record { item = x; at = refl; gives = same_Some _ _ e }
of_map f (x ∷ xs) (suc k) y e =
    let rest = of_map f xs k y e in
    record { item = rest.item; at = rest.at; gives = rest.gives }

-- an item of one of many lists
pub record OneOf {X Y : Type 0} (f : X → List Y) (xs : List X) (y : Y) : Type 0 where
  pub index : ℕ
  pub item : X
  pub is : slice_get xs index ≡ Some item
  pub place : ℕ
  pub at : slice_get (f item) place ≡ Some y

pub of_flat_map : {X Y : Type 0} (f : X → List Y) (xs : List X) (k : ℕ) (y : Y) → slice_get (flat_map f xs) k ≡ Some y → OneOf f xs y
of_flat_map f [] k y e = absurd cc
of_flat_map f (x ∷ xs) k y e = of_both (f x) (flat_map f xs) k y e here (λ a. later (of_flat_map f xs a.index y a.at))
  where
    here : Among (f x) y → OneOf f (x ∷ xs) y
    here a = record { index = 0; item = x; is = refl; place = a.index; at = a.at }

    later : OneOf f xs y → OneOf f (x ∷ xs) y
    later one = record { index = suc one.index; item = one.item; is = one.is; place = one.place; at = one.at }

-- an item and its number
record Numbered {X : Type 0} (first : ℕ) (xs : List X) (k : ℕ) (pair : ℕ × X) : Type 0 where
  number : pair.0 ≡ first + k
  item : slice_get xs k ≡ Some pair.1

numbered : {X : Type 0} (first : ℕ) (xs : List X) (k : ℕ) (pair : ℕ × X) → slice_get (enumerate_from first xs) k ≡ Some pair → Numbered first xs k pair
numbered first [] k pair e = absurd cc
numbered {X} first (x ∷ xs) zero pair e = subst (λ (p : ℕ × X). Numbered first (x ∷ xs) zero p) (same_Some _ _ e) (record { number = omega arith; item = refl })
numbered first (x ∷ xs) (suc k) pair e =
    let rest = numbered (first + 1) xs k pair e in
    record { number = omega (arith, rest.number); item = rest.item }

pub of_enumerated : {X : Type 0} (xs : List X) (k : ℕ) (pair : ℕ × X) → slice_get (enumerate_from 0 xs) k ≡ Some pair → slice_get xs pair.0 ≡ Some pair.1
of_enumerated xs k pair e =
    let one = numbered 0 xs k pair e in
    let same : pair.0 ≡ k = omega (arith, one.number) in
    ap (slice_get xs) same ∙ one.item

pub record There {X : Type 0} (xs : List X) (k : ℕ) : Type 0 where
  pub item : X
  pub at : slice_get xs k ≡ Some item

pub there_is : {X : Type 0} (xs : List X) (k : ℕ) → k < length xs → There xs k
there_is [] k lt = absurd (omega (arith, lt))
there_is (x ∷ xs) zero lt = record { item = x; at = refl }
there_is (x ∷ xs) (suc k) lt =
    let rest = there_is xs k (omega (arith, lt)) in
    record { item = rest.item; at = rest.at }
