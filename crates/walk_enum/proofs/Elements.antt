-- Elements of lists.
use Rattle.std.proofs.Common.{◌≡◌, ◌⊎◌, inl, inr, ℕ, zero, suc, ◌+◌, ◌-◌, ◌<◌, ◌≤◌, Bool, true, false, cond, List, [], ◌∷◌, ◌++◌, map, refl, sym, ap, subst, ◌∙◌, arith}
use Rattle.std.specs.List.{Contains, filter, flat_map, range_with_len}
use Rattle.std.proofs.lemmas.Bool.{cond_both}
use Rattle.std.proofs.lemmas.List.Elements.{All-contains, Contains-get_or, Contains-append_left, Contains-append_right, Contains-append_cases, filter_passes}
use Rattle.std.proofs.lemmas.List.FromFn.{length-range_with_len, get_or-range_with_len}

pub not_in_nothing : {X : Type 0} {P : Type 0} (x : X) → Contains [] x → P
not_in_nothing x (k, lt, is) = absurd (omega arith)

pub in_cases : {X : Type 0} (y : X) (ys : List X) (x : X) → Contains (y ∷ ys) x → (y ≡ x) ⊎ Contains ys x
in_cases y ys x (zero, lt, is) = inl is
in_cases y ys x (suc k, lt, is) = inr (k, omega (arith, lt), is)

pub in_first : {X : Type 0} (x : X) (xs : List X) → Contains (x ∷ xs) x
in_first x xs = (0, omega arith, refl)

pub in_rest : {X : Type 0} (y : X) (xs : List X) (x : X) → Contains xs x → Contains (y ∷ xs) x
in_rest y xs x (k, lt, is) = (suc k, omega (arith, lt), is)

-- ---- what passes a test

pub in_filter : (p : ℕ → Bool) (xs : List ℕ) (x : ℕ) → p x ≡ true → Contains xs x → Contains (filter p xs) x
in_filter p [] x e h = not_in_nothing x h
in_filter p (y ∷ ys) x e h = elim (in_cases y ys x h) [
  | inl same ↦
      let passes : p y ≡ true = ap p same ∙ e in
      rw passes (subst (λ (z : ℕ). Contains (z ∷ filter p ys) x) (sym same) (in_first x (filter p ys)))
  | inr rest ↦ cond_both (p y) (y ∷ filter p ys) (filter p ys) (λ (zs : List ℕ). Contains zs x) (λ t. in_rest y (filter p ys) x (in_filter p ys x e rest)) (λ t. in_filter p ys x e rest)
]

pub from_filter : (p : ℕ → Bool) (xs : List ℕ) (x : ℕ) → Contains (filter p xs) x → Contains xs x
from_filter p [] x h = h
from_filter p (y ∷ ys) x h = by (p y) (from_filter p ys x) h
  where
    by : (b : Bool) → (Contains (filter p ys) x → Contains ys x) → Contains (cond b (y ∷ filter p ys) (filter p ys)) x → Contains (y ∷ ys) x
    by true more h = elim (in_cases y (filter p ys) x h) [ inl same ↦ subst (λ (z : ℕ). Contains (z ∷ ys) x) (sym same) (in_first x ys) | inr rest ↦ in_rest y ys x (more rest) ]
    by false more h = in_rest y ys x (more h)

pub passes_filter : (p : ℕ → Bool) (xs : List ℕ) (x : ℕ) → Contains (filter p xs) x → p x ≡ true
passes_filter p xs x h = All-contains (λ (z : ℕ). p z ≡ true) (filter p xs) x (filter_passes p xs) h

pub filter_same : (p q : ℕ → Bool) (xs : List ℕ) → ((x : ℕ) → Contains xs x → p x ≡ q x) → filter p xs ≡ filter q xs
filter_same p q [] same = refl
filter_same p q (x ∷ xs) same =
    let rest : filter p xs ≡ filter q xs = filter_same p q xs (λ y h. same y (in_rest x xs y h)) in
    rw (same x (in_first x xs), rest) refl

-- ---- numbers in a row

pub in_range : (n b : ℕ) → 1 ≤ b → b ≤ n → Contains (range_with_len 1 n) b
in_range n b low high =
    let within : b - 1 < n = omega arith in
    let at : 1 + (b - 1) ≡ b = omega arith in
    subst (Contains (range_with_len 1 n)) (get_or-range_with_len 1 n (b - 1) 0 within ∙ at) (Contains-get_or (range_with_len 1 n) (b - 1) 0 (omega (arith, length-range_with_len 1 n)))

pub range_high : (a n b : ℕ) → Contains (range_with_len a n) b → (a ≤ b) × (b < a + n)
range_high a zero b h = not_in_nothing b h
range_high a (suc n) b h = elim (in_cases a (range_with_len (a + 1) n) b h) [
  | inl same ↦ (omega (arith, same), omega (arith, same))
  | inr rest ↦ let r = range_high (a + 1) n b rest in (omega (arith, r.0), omega (arith, r.1))
]

-- ---- lists of lists

pub in_flat : {X Y : Type 0} (f : X → List Y) (xs : List X) (x : X) (y : Y) → Contains xs x → Contains (f x) y → Contains (flat_map f xs) y
in_flat f [] x y h k = not_in_nothing x h
in_flat {X} {Y} f (z ∷ zs) x y h k = elim (in_cases z zs x h) [
  | inl same ↦ Contains-append_left (f z) (flat_map f zs) y (subst (λ (v : X). Contains (f v) y) (sym same) k)
  | inr rest ↦ Contains-append_right (f z) (flat_map f zs) y (in_flat f zs x y rest k)
]

pub from_flat : {X Y : Type 0} (f : X → List Y) (xs : List X) (y : Y) → Contains (flat_map f xs) y → (x : X) × Contains xs x × Contains (f x) y
from_flat f [] y h = not_in_nothing y h
from_flat f (z ∷ zs) y h = elim (Contains-append_cases (f z) (flat_map f zs) y h) [
  | inl here ↦ (z, in_first z zs, here)
  | inr there ↦ let r = from_flat f zs y there in (r.0, in_rest z zs r.0 r.1, r.2)
]

pub in_map : {X Y : Type 0} (f : X → Y) (xs : List X) (x : X) → Contains xs x → Contains (map f xs) (f x)
in_map f [] x h = not_in_nothing x h
in_map {X} {Y} f (z ∷ zs) x h = elim (in_cases z zs x h) [
  | inl same ↦ subst (λ (v : X). Contains (f z ∷ map f zs) (f v)) same (in_first (f z) (map f zs))
  | inr rest ↦ in_rest (f z) (map f zs) (f x) (in_map f zs x rest)
]

pub from_map : {X Y : Type 0} (f : X → Y) (xs : List X) (y : Y) → Contains (map f xs) y → (x : X) × Contains xs x × (f x ≡ y)
from_map f [] y h = not_in_nothing y h
from_map f (z ∷ zs) y h = elim (in_cases (f z) (map f zs) y h) [
  | inl same ↦ (z, in_first z zs, same)
  | inr rest ↦ let r = from_map f zs y rest in (r.0, in_rest z zs r.0 r.1, r.2)
]

pub flat_same : {X Y : Type 0} (f g : X → List Y) (xs : List X) → ((x : X) → Contains xs x → f x ≡ g x) → flat_map f xs ≡ flat_map g xs
flat_same f g [] same = refl
flat_same f g (x ∷ xs) same =
    let rest : flat_map f xs ≡ flat_map g xs = flat_same f g xs (λ y h. same y (in_rest x xs y h)) in
    rw (same x (in_first x xs), rest) refl

pub flat_kept : {X Y : Type 0} (f : X → List Y) (p : X → Bool) (xs : List X) → ((x : X) → p x ≡ false → f x ≡ []) → flat_map f (filter p xs) ≡ flat_map f xs
flat_kept f p [] none = refl
flat_kept {X} {Y} f p (x ∷ xs) none = by (p x) refl (flat_kept f p xs none)
  where
    by : (b : Bool) → p x ≡ b → flat_map f (filter p xs) ≡ flat_map f xs → flat_map f (cond b (x ∷ filter p xs) (filter p xs)) ≡ f x ++ flat_map f xs
    by true e rest = ap (λ (ys : List Y). f x ++ ys) rest
    by false e rest = rest ∙ ap (λ (ys : List Y). ys ++ flat_map f xs) (sym (none x e))
