-- Walks along given successors.
use Rattle.std.proofs.Common.{◌≡◌, inl, inr, ℕ, zero, suc, ◌+◌, ◌<◌, ◌≤◌, Bool, true, false, cond, List, [], ◌∷◌, length, map, refl, sym, ap, subst, ◌∙◌, arith, eq-eqb}
use Rattle.std.specs.Prelude.{◌==◌}
use Rattle.std.specs.List.{Contains, flat_map, range_with_len}
use Rattle.std.proofs.lemmas.Bool.{eqb-true, cases_order}
use Rattle.walk_enum.specs.Walks.{walks_along, first_some, Goes}
use Rattle.walk_enum.specs.Inner.Cutting.{is_none}
use Rattle.walk_enum.proofs.Elements.{not_in_nothing, in_cases, in_first, in_map, from_map, in_flat, from_flat}
use Rattle.walk_enum.proofs.Ascending.{Ascends, Before, ascends_append, ascends_map, before_cons, before_head}

-- the walks by one successor
abbrev pub by_step : (ℕ → List ℕ) → ℕ → ℕ → ℕ → ℕ → List (List ℕ)
by_step next a b k c = map (λ w. a ∷ w) (walks_along next c b k)

pub walk_parts : (next : ℕ → List ℕ) (a b k : ℕ) (w : List ℕ) → Contains (walks_along next a b (suc k)) w → (c : ℕ) × (v : List ℕ) × Contains (next a) c × Contains (walks_along next c b k) v × ((a ∷ v) ≡ w)
walk_parts next a b k w h =
    let f = from_flat (by_step next a b k) (next a) w h in
    let m = from_map (λ v. a ∷ v) (walks_along next f.0 b k) w f.2 in
    (f.0, m.0, f.1, m.1, m.2)

pub alone : (next : ℕ → List ℕ) (a b : ℕ) (w : List ℕ) → Contains (walks_along next a b 0) w → (a ≡ b) × ((a ∷ []) ≡ w)
alone next a b w h = by (a == b) refl h
  where
    by : (t : Bool) → (a == b) ≡ t → Contains (cond t ((a ∷ []) ∷ []) []) w → (a ≡ b) × ((a ∷ []) ≡ w)
    by true e h = elim (in_cases (a ∷ []) [] w h) [ inl is ↦ (eqb-true a b e, is) | inr none ↦ not_in_nothing w none ]
    by false e h = not_in_nothing w h

pub starts : (next : ℕ → List ℕ) (a b k : ℕ) (w : List ℕ) → Contains (walks_along next a b k) w → (v : List ℕ) × ((a ∷ v) ≡ w)
starts next a b zero w h = ([], (alone next a b w h).1)
starts next a b (suc k) w h = let p = walk_parts next a b k w h in (p.1, p.4)

pub walk_length : (next : ℕ → List ℕ) (a b k : ℕ) (w : List ℕ) → Contains (walks_along next a b k) w → length w ≡ k + 1
walk_length next a b zero w h = subst (λ (v : List ℕ). length v ≡ 1) (alone next a b w h).1 refl
walk_length next a b (suc k) w h =
    let p = walk_parts next a b k w h in
    subst (λ (v : List ℕ). length v ≡ suc k + 1) p.4 (omega (arith, walk_length next p.0 b k p.1 p.3))

pub goes_from_walk : (next : ℕ → List ℕ) (a b k : ℕ) (w : List ℕ) → Contains (walks_along next a b k) w → Goes next a b k
goes_from_walk next a b zero w h = (alone next a b w h).0
goes_from_walk next a b (suc k) w h = let p = walk_parts next a b k w h in (p.0, p.2, goes_from_walk next p.0 b k p.1 p.3)

pub walk_alone : (next : ℕ → List ℕ) (a b : ℕ) → a ≡ b → walks_along next a b 0 ≡ (a ∷ []) ∷ []
walk_alone next a b e = rw (eq-eqb a b e) refl

pub walk_from_goes : (next : ℕ → List ℕ) (a b k : ℕ) → Goes next a b k → (w : List ℕ) × Contains (walks_along next a b k) w
walk_from_goes next a b zero e = (a ∷ [], rw (walk_alone next a b e) (in_first (a ∷ []) []))
walk_from_goes next a b (suc k) (c, has, rest) =
    let v = walk_from_goes next c b k rest in
    (a ∷ v.0, in_flat (by_step next a b k) (next a) c (a ∷ v.0) has (in_map (λ w. a ∷ w) (walks_along next c b k) v.0 v.1))

-- ---- whether there are some

pub some_has : {X : Type 0} (xs : List X) → is_none xs ≡ false → (x : X) × Contains xs x
some_has [] e = absurd cc
some_has (x ∷ xs) e = (x, in_first x xs)

pub has_some : {X : Type 0} (xs : List X) (x : X) → Contains xs x → is_none xs ≡ false
has_some [] x h = not_in_nothing x h
has_some (y ∷ xs) x h = refl

pub nothing : {X : Type 0} (xs : List X) → ((x : X) → Contains xs x → ⊥) → xs ≡ []
nothing [] none = refl
nothing (x ∷ xs) none = absurd (none x (in_first x xs))

pub none_is_empty : {X : Type 0} (xs : List X) → is_none xs ≡ true → xs ≡ []
none_is_empty [] e = refl
none_is_empty (x ∷ xs) e = absurd cc

pub goes_from_some : (next : ℕ → List ℕ) (a b k : ℕ) → is_none (walks_along next a b k) ≡ false → Goes next a b k
goes_from_some next a b k e = let w = some_has (walks_along next a b k) e in goes_from_walk next a b k w.0 w.1

pub some_from_goes : (next : ℕ → List ℕ) (a b k : ℕ) → Goes next a b k → is_none (walks_along next a b k) ≡ false
some_from_goes next a b k g = let w = walk_from_goes next a b k g in has_some (walks_along next a b k) w.0 w.1

pub no_walks : (next : ℕ → List ℕ) (a b k : ℕ) → (Goes next a b k → ⊥) → walks_along next a b k ≡ []
no_walks next a b k none = nothing (walks_along next a b k) (λ w h. none (goes_from_walk next a b k w h))

-- ---- ways put together

pub goes_join : (next : ℕ → List ℕ) (a b c n k m : ℕ) → Goes next a b n → Goes next b c k → m ≡ n + k → Goes next a c m
goes_join next a b c zero k m e g is =
    let same : k ≡ m = omega (arith, is) in
    subst (λ (i : ℕ). Goes next a c i) same (subst (λ (x : ℕ). Goes next x c k) (sym e) g)
goes_join next a b c (suc n) k zero h g is = absurd (omega (arith, is))
goes_join next a b c (suc n) k (suc m) (d, has, rest) g is = (d, has, goes_join next d b c n k m rest g (omega (arith, is)))

pub goes_on_by : (next : ℕ → List ℕ) (a b c n : ℕ) → Goes next a b n → Contains (next b) c → Goes next a c (n + 1)
goes_on_by next a b c n h has = goes_join next a b c n 1 (n + 1) h (c, has, refl) refl

pub goes_back : (next : ℕ → List ℕ) (a b n : ℕ) → Goes next a b (suc n) → (c : ℕ) × Goes next a c n × Contains (next c) b
goes_back next a b zero (c, has, is) = (a, refl, subst (λ (x : ℕ). Contains (next a) x) is has)
goes_back next a b (suc n) (c, has, rest) = let r = goes_back next c b n rest in (r.0, (c, has, r.1), r.2)

-- ---- the least number of steps

head_first : (ws : List (List ℕ)) (rest : List (List (List ℕ))) → is_none ws ≡ false → first_some (ws ∷ rest) ≡ ws
head_first [] rest e = absurd cc
head_first (w ∷ ws) rest e = refl

pub first_is : (f : ℕ → List (List ℕ)) (s n least : ℕ) → s ≤ least → least < s + n → is_none (f least) ≡ false → ((j : ℕ) → j < least → f j ≡ []) → first_some (map f (range_with_len s n)) ≡ f least
first_is f s zero least low high some none = absurd (omega (arith, low, high))
first_is f s (suc n) least low high some none = elim (cases_order s least) [
  | inl e ↦ subst (λ (i : ℕ). first_some (f s ∷ map f (range_with_len (s + 1) n)) ≡ f i) e (head_first (f s) (map f (range_with_len (s + 1) n)) (ap (λ (i : ℕ). is_none (f i)) e ∙ some))
  | inr (inl lt) ↦ rw (none s lt) (first_is f (s + 1) n least (omega (arith, lt)) (omega (arith, high)) some none)
  | inr (inr gt) ↦ absurd (omega (arith, gt, low))
]

pub first_none : (f : ℕ → List (List ℕ)) (s n : ℕ) → ((j : ℕ) → f j ≡ []) → first_some (map f (range_with_len s n)) ≡ []
first_none f s zero none = refl
first_none f s (suc n) none = rw (none s) (first_none f (s + 1) n none)

pub first_of_all : (P : List (List ℕ) → Type 0) (f : ℕ → List (List ℕ)) (s n : ℕ) → P [] → ((j : ℕ) → P (f j)) → P (first_some (map f (range_with_len s n)))
first_of_all P f s zero empty each = empty
first_of_all P f s (suc n) empty each = by (f s) (each s) (first_of_all P f (s + 1) n empty each)
  where
    by : (ws : List (List ℕ)) → P ws → P (first_some (map f (range_with_len (s + 1) n))) → P (first_some (ws ∷ map f (range_with_len (s + 1) n)))
    by [] p rest = rest
    by (w ∷ ws) p rest = p

-- ---- they rise

across : (next : ℕ → List ℕ) (a b k c : ℕ) (cs : List ℕ) → ((d : ℕ) → Contains cs d → c < d) → (x y : List ℕ) → Contains (by_step next a b k c) x → Contains (flat_map (by_step next a b k) cs) y → Before x y
across next a b k c cs below x y in_x in_y =
    let p = from_map (λ w. a ∷ w) (walks_along next c b k) x in_x in
    let f = from_flat (by_step next a b k) cs y in_y in
    let q = from_map (λ w. a ∷ w) (walks_along next f.0 b k) y f.2 in
    let v = starts next c b k p.0 p.1 in
    let w = starts next f.0 b k q.0 q.1 in
    let less : Before p.0 q.0 = subst (λ (s : List ℕ). Before s q.0) v.1 (subst (λ (s : List ℕ). Before (c ∷ v.0) s) w.1 (before_head c f.0 v.0 w.0 (below f.0 f.1))) in
    subst (λ (s : List ℕ). Before s y) p.2 (subst (λ (s : List ℕ). Before (a ∷ p.0) s) q.2 (before_cons a p.0 q.0 less))

rows_ascend : (next : ℕ → List ℕ) (a b k : ℕ) → ((c : ℕ) → Ascends Before (walks_along next c b k)) → (cs : List ℕ) → Ascends ◌<◌ cs → Ascends Before (flat_map (by_step next a b k) cs)
rows_ascend next a b k each [] h = tt
rows_ascend next a b k each (c ∷ cs) h =
    ascends_append Before (by_step next a b k c) (flat_map (by_step next a b k) cs) (ascends_map a (walks_along next c b k) (each c)) (rows_ascend next a b k each cs h.1) (across next a b k c cs h.0)

pub walks_ascend : (next : ℕ → List ℕ) → ((a : ℕ) → Ascends ◌<◌ (next a)) → (a b k : ℕ) → Ascends Before (walks_along next a b k)
walks_ascend next rise a b zero = by (a == b)
  where
    by : (t : Bool) → Ascends Before (cond t ((a ∷ []) ∷ []) [])
    by true = ((λ y has. not_in_nothing y has), tt)
    by false = tt
walks_ascend next rise a b (suc k) = rows_ascend next a b k (λ c. walks_ascend next rise c b k) (next a) (rise a)
