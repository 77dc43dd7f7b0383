-- What tests find in lists that are filtered, mapped and put together.
use Rattle.std.proofs.Common.{◌≡◌, ℕ, Bool, true, false, cond, List, [], ◌∷◌, ◌++◌, map, refl, sym, ap, ◌∙◌, eq-eqb}
use Rattle.std.specs.Prelude.{◌||◌, ◌&&◌, ◌==◌}
use Rattle.std.specs.List.{filter, flat_map, list_any}
use Rattle.std.proofs.lemmas.List.Folds.{list_any-append}
use Rattle.std.proofs.lemmas.List.Elements.{filter-append}

pub filter_filter : {X : Type 0} (p q : X → Bool) (xs : List X) → filter p (filter q xs) ≡ filter (λ x. q x && p x) xs
filter_filter p q [] = refl
filter_filter p q (x ∷ xs) = by (q x) (p x) refl (filter_filter p q xs)
  where
    by : (b c : Bool) → p x ≡ c → filter p (filter q xs) ≡ filter (λ x. q x && p x) xs
        → filter p (cond b (x ∷ filter q xs) (filter q xs)) ≡ cond (b && c) (x ∷ filter (λ x. q x && p x) xs) (filter (λ x. q x && p x) xs)
    by true true e rest = rw e (ap (λ ys. x ∷ ys) rest)
    by true false e rest = rw e rest
    by false c e rest = rest

pub any_filter : {X : Type 0} (p q : X → Bool) (xs : List X) → list_any p (filter q xs) ≡ list_any (λ x. q x && p x) xs
any_filter p q [] = refl
any_filter p q (x ∷ xs) = by (q x) (any_filter p q xs)
  where
    by : (b : Bool) → list_any p (filter q xs) ≡ list_any (λ x. q x && p x) xs → list_any p (cond b (x ∷ filter q xs) (filter q xs)) ≡ ((b && p x) || list_any (λ x. q x && p x) xs)
    by true rest = ap (λ b. p x || b) rest
    by false rest = rest

pub any_flat_map : {X Y : Type 0} (p : Y → Bool) (f : X → List Y) (xs : List X) → list_any p (flat_map f xs) ≡ list_any (λ x. list_any p (f x)) xs
any_flat_map p f [] = refl
any_flat_map p f (x ∷ xs) = list_any-append p (f x) (flat_map f xs) ∙ ap (λ b. list_any p (f x) || b) (any_flat_map p f xs)

pub any_map : {X Y : Type 0} (p : Y → Bool) (f : X → Y) (xs : List X) → list_any p (map f xs) ≡ list_any (λ x. p (f x)) xs
any_map p f [] = refl
any_map p f (x ∷ xs) = ap (λ b. p (f x) || b) (any_map p f xs)

pub any_agree : {X : Type 0} (p q : X → Bool) → ((x : X) → p x ≡ q x) → (xs : List X) → list_any p xs ≡ list_any q xs
any_agree p q h [] = refl
any_agree p q h (x ∷ xs) = rw (h x, any_agree p q h xs) refl

pub or_left : (a b : Bool) → a ≡ true → (a || b) ≡ true
or_left a b e = rw e refl

pub or_right : (a b : Bool) → b ≡ true → (a || b) ≡ true
or_right true b e = refl
or_right false b e = e

pub and_both : (a b : Bool) → (a && b) ≡ true → (a ≡ true) × (b ≡ true)
and_both true b e = (refl, e)
and_both false b e = absurd cc

pub and_of : (a b : Bool) → a ≡ true → b ≡ true → (a && b) ≡ true
and_of a b e f = rw e f

pub false_or_true : (b : Bool) → b ≡ true → b ≡ false → ⊥
false_or_true b e f = absurd cc

pub both_ways : (a b : Bool) → (a ≡ true → b ≡ true) → (b ≡ true → a ≡ true) → a ≡ b
both_ways true b f g = sym (f refl)
both_ways false true f g = g refl
both_ways false false f g = refl

pub any_implies : {X : Type 0} (p q : X → Bool) → ((x : X) → p x ≡ true → q x ≡ true) → (xs : List X) → list_any p xs ≡ true → list_any q xs ≡ true
any_implies p q h [] e = e
any_implies p q h (x ∷ xs) e = by (p x) refl e (any_implies p q h xs)
  where
    by : (b : Bool) → p x ≡ b → (b || list_any p xs) ≡ true → (list_any p xs ≡ true → list_any q xs ≡ true) → (q x || list_any q xs) ≡ true
    by true is e more = or_left (q x) (list_any q xs) (h x is)
    by false is e more = or_right (q x) (list_any q xs) (more e)

-- a part of a test that does not look at the element
pub any_and_left : {X : Type 0} (a : Bool) (p : X → Bool) (xs : List X) → list_any (λ x. a && p x) xs ≡ (a && list_any p xs)
any_and_left true p xs = refl
any_and_left false p [] = refl
any_and_left false p (x ∷ xs) = any_and_left false p xs

pub any_and_right : {X : Type 0} (a : Bool) (p : X → Bool) (xs : List X) → list_any (λ x. p x && a) xs ≡ (list_any p xs && a)
any_and_right a p [] = refl
any_and_right a p (x ∷ xs) = by (p x) a (any_and_right a p xs)
  where
    by : (b a : Bool) → list_any (λ x. p x && a) xs ≡ (list_any p xs && a) → ((b && a) || list_any (λ x. p x && a) xs) ≡ ((b || list_any p xs) && a)
    by true true rest = refl
    by true false rest = rest ∙ none (list_any p xs)
      where
        none : (b : Bool) → (b && false) ≡ false
        none true = refl
        none false = refl
    by false a rest = rest

pub filter_mapped : {A B : Type 0} (f : A → B) (p : B → Bool) (xs : List A) → filter p (map f xs) ≡ map f (filter (λ x. p (f x)) xs)
filter_mapped f p [] = refl
filter_mapped f p (x ∷ xs) = by (p (f x)) (filter_mapped f p xs)
  where
    by : (b : Bool) → filter p (map f xs) ≡ map f (filter (λ x. p (f x)) xs) → cond b (f x ∷ filter p (map f xs)) (filter p (map f xs)) ≡ map f (cond b (x ∷ filter (λ x. p (f x)) xs) (filter (λ x. p (f x)) xs))
    by true rest = ap (λ ys. f x ∷ ys) rest
    by false rest = rest

pub map_both : {A B : Type 0} (f : A → B) (xs ys : List A) → map f (xs ++ ys) ≡ map f xs ++ map f ys
map_both f [] ys = refl
map_both f (x ∷ xs) ys = ap (λ zs. f x ∷ zs) (map_both f xs ys)

-- what is kept of lists that are put together
pub kept_together : {X A B : Type 0} (p : B → Bool) (f : A → B) (g : X → List A) (xs : List X) → flat_map (λ x. filter p (map f (g x))) xs ≡ filter p (map f (flat_map g xs))
kept_together p f g [] = refl
kept_together p f g (x ∷ xs) =
    ap (λ ys. filter p (map f (g x)) ++ ys) (kept_together p f g xs)
    ∙ sym (ap (filter p) (map_both f (g x) (flat_map g xs)) ∙ filter-append p (map f (g x)) (map f (flat_map g xs)))

pub flat_agree : {X Y : Type 0} (f g : X → List Y) → ((x : X) → f x ≡ g x) → (xs : List X) → flat_map f xs ≡ flat_map g xs
flat_agree f g h [] = refl
flat_agree f g h (x ∷ xs) = rw (h x, flat_agree f g h xs) refl

pub map_agree : {X Y : Type 0} (f g : X → Y) → ((x : X) → f x ≡ g x) → (xs : List X) → map f xs ≡ map g xs
map_agree f g h [] = refl
map_agree f g h (x ∷ xs) = rw (h x, map_agree f g h xs) refl

pub eq_itself : (n : ℕ) → (n == n) ≡ true
eq_itself n = eq-eqb n n refl
