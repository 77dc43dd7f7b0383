-- Simple walks along given successors.
use Rattle.std.proofs.Common.{◌≡◌, ◌⊎◌, inl, inr, ℕ, zero, suc, ◌<◌, ◌≤◌, Bool, true, false, cond, ◌==◌, List, [], ◌∷◌, ◌++◌, length, map, drop, refl, sym, ap, subst, ◌∙◌, arith, append_assoc, append-nil}
use Rattle.std.specs.Prelude.{slice_index}
use Rattle.std.specs.List.{Contains, filter, flat_map}
use Rattle.walk_simple.specs.SimpleWalks.{is_new, simple_along}
use Rattle.walk_enum.proofs.Elements.{not_in_nothing, in_cases, in_first, in_rest, from_filter, passes_filter, from_flat, from_map}
use Rattle.walk_enum.proofs.Ascending.{Ascends, Before, ascends_append, ascends_map, ascends_filter, before_head, before_cons}

-- the walks over one successor
abbrev pub by_node : (ℕ → List ℕ) → List ℕ → ℕ → ℕ → ℕ → ℕ → List (List ℕ)
by_node next used a b k c = map (λ w. a ∷ w) (simple_along next (used ++ a ∷ []) c b k)

-- the walks over those of a row
abbrev pub over : (ℕ → List ℕ) → List ℕ → ℕ → ℕ → ℕ → List ℕ → List (List ℕ)
over next used a b k row = flat_map (by_node next used a b k) (filter (is_new (used ++ a ∷ [])) row)

pub alone_cases : (t : Bool) (x : List ℕ) (rest : List (List ℕ)) (w : List ℕ) → Contains (cond t (x ∷ []) rest) w → ((t ≡ true) × (x ≡ w)) ⊎ ((t ≡ false) × Contains rest w)
alone_cases true x rest w h = elim (in_cases x [] w h) [ inl e ↦ inl (refl, e) | inr none ↦ not_in_nothing w none ]
alone_cases false x rest w h = inr (refl, h)

-- a walk begins with its first node
pub starts : (next : ℕ → List ℕ) (used : List ℕ) (a b k : ℕ) (w : List ℕ) → Contains (simple_along next used a b k) w → (v : List ℕ) × ((a ∷ v) ≡ w)
starts next used a b zero w h = elim (alone_cases (a == b) (a ∷ []) [] w h) [ inl e ↦ ([], e.1) | inr e ↦ not_in_nothing w e.1 ]
starts next used a b (suc k) w h = elim (alone_cases (a == b) (a ∷ []) (over next used a b k (next a)) w h) [
  | inl e ↦ ([], e.1)
  | inr e ↦
      let p = from_flat (by_node next used a b k) (filter (is_new (used ++ a ∷ [])) (next a)) w e.1 in
      let q = from_map (λ w. a ∷ w) (simple_along next (used ++ a ∷ []) p.0 b k) w p.2 in
      (q.0, q.2)
]

-- ---- a walk of more than one node

pub record Parts (next : ℕ → List ℕ) (used : List ℕ) (a b k : ℕ) (w : List ℕ) : Type 0 where
  pub apart : (a == b) ≡ false
  pub has : Contains (next a) (slice_index w 0)
  pub fresh : is_new (used ++ a ∷ []) (slice_index w 0) ≡ true
  pub rest : Contains (simple_along next (used ++ a ∷ []) (slice_index w 0) b k) w

pub some_left : (next : ℕ → List ℕ) (used : List ℕ) (a b k : ℕ) (w : List ℕ) → Contains (simple_along next used a b k) (a ∷ w) → 0 < length w → 1 ≤ k
some_left next used a b zero w h some = elim (alone_cases (a == b) (a ∷ []) [] (a ∷ w) h) [ inl e ↦ absurd (omega (arith, ap length e.1, some)) | inr e ↦ not_in_nothing (a ∷ w) e.1 ]
some_left next used a b (suc k) w h some = omega arith

pub parts : (next : ℕ → List ℕ) (used : List ℕ) (a b k : ℕ) (w : List ℕ) → Contains (simple_along next used a b (suc k)) (a ∷ w) → 0 < length w → Parts next used a b k w
parts next used a b k w h some = elim (alone_cases (a == b) (a ∷ []) (over next used a b k (next a)) (a ∷ w) h) [
  | inl e ↦ absurd (omega (arith, ap length e.1, some))
  | inr e ↦
      let row = filter (is_new (used ++ a ∷ [])) (next a) in
      let p = from_flat (by_node next used a b k) row (a ∷ w) e.1 in
      let q = from_map (λ w. a ∷ w) (simple_along next (used ++ a ∷ []) p.0 b k) (a ∷ w) p.2 in
      let same : q.0 ≡ w = ap (λ (l : List ℕ). drop 1 l) q.2 in
      let s = starts next (used ++ a ∷ []) p.0 b k q.0 q.1 in
      let head : p.0 ≡ slice_index w 0 = ap (λ (l : List ℕ). slice_index l 0) (s.1 ∙ same) in
      record {
        apart = e.0;
        has = subst (Contains (next a)) head (from_filter (is_new (used ++ a ∷ [])) (next a) p.0 p.1);
        fresh = subst (λ (c : ℕ). is_new (used ++ a ∷ []) c ≡ true) head (passes_filter (is_new (used ++ a ∷ [])) (next a) p.0 p.1);
        rest = subst (λ (c : ℕ). Contains (simple_along next (used ++ a ∷ []) c b k) w) head (subst (Contains (simple_along next (used ++ a ∷ []) p.0 b k)) same q.1);
      }
]

-- ---- by the test of the end

pub is_end : (next : ℕ → List ℕ) (used : List ℕ) (a b k : ℕ) → (a == b) ≡ true → simple_along next used a b k ≡ (a ∷ []) ∷ []
is_end next used a b zero e = ap (λ (t : Bool). cond t ((a ∷ []) ∷ []) []) e
is_end next used a b (suc k) e = ap (λ (t : Bool). cond t ((a ∷ []) ∷ []) (over next used a b k (next a))) e

pub no_end : (next : ℕ → List ℕ) (used : List ℕ) (a b k : ℕ) → (a == b) ≡ false → simple_along next used a b (suc k) ≡ over next used a b k (next a)
no_end next used a b k e = ap (λ (t : Bool). cond t ((a ∷ []) ∷ []) (over next used a b k (next a))) e

pub no_steps : (next : ℕ → List ℕ) (used : List ℕ) (a b : ℕ) → (a == b) ≡ false → simple_along next used a b 0 ≡ []
no_steps next used a b e = ap (λ (t : Bool). cond t ((a ∷ []) ∷ []) []) e

-- ---- over rows

pub over_append : (next : ℕ → List ℕ) (used : List ℕ) (a b k : ℕ) (xs ys : List ℕ) → over next used a b k (xs ++ ys) ≡ over next used a b k xs ++ over next used a b k ys
over_append next used a b k [] ys = refl
over_append next used a b k (x ∷ xs) ys = by (is_new (used ++ a ∷ []) x) (over_append next used a b k xs ys)
  where
    p : ℕ → Bool
    p = is_new (used ++ a ∷ [])

    f : ℕ → List (List ℕ)
    f = by_node next used a b k

    by : (t : Bool) → flat_map f (filter p (xs ++ ys)) ≡ flat_map f (filter p xs) ++ flat_map f (filter p ys)
        → flat_map f (cond t (x ∷ filter p (xs ++ ys)) (filter p (xs ++ ys))) ≡ flat_map f (cond t (x ∷ filter p xs) (filter p xs)) ++ flat_map f (filter p ys)
    by true e = ap (λ (l : List (List ℕ)). f x ++ l) e ∙ sym (append_assoc (f x) (flat_map f (filter p xs)) (flat_map f (filter p ys)))
    by false e = e

pub over_one : (next : ℕ → List ℕ) (used : List ℕ) (a b k c : ℕ) → is_new (used ++ a ∷ []) c ≡ true → over next used a b k (c ∷ []) ≡ by_node next used a b k c
over_one next used a b k c e = ap (λ (t : Bool). flat_map (by_node next used a b k) (cond t (c ∷ []) [])) e ∙ append-nil (by_node next used a b k c)

pub over_used : (next : ℕ → List ℕ) (used : List ℕ) (a b k c : ℕ) → is_new (used ++ a ∷ []) c ≡ false → over next used a b k (c ∷ []) ≡ []
over_used next used a b k c e = ap (λ (t : Bool). flat_map (by_node next used a b k) (cond t (c ∷ []) [])) e

pub over_none : (next : ℕ → List ℕ) (used : List ℕ) (a b k c : ℕ) → simple_along next (used ++ a ∷ []) c b k ≡ [] → over next used a b k (c ∷ []) ≡ []
over_none next used a b k c none = by (is_new (used ++ a ∷ []) c)
  where
    by : (t : Bool) → flat_map (by_node next used a b k) (cond t (c ∷ []) []) ≡ []
    by true = append-nil (by_node next used a b k c) ∙ ap (map (λ w. a ∷ w)) none
    by false = refl

-- none where there is none over each
pub over_nothing : (next : ℕ → List ℕ) (used : List ℕ) (a b k : ℕ) (row : List ℕ) → ((c : ℕ) → Contains row c → simple_along next (used ++ a ∷ []) c b k ≡ []) → over next used a b k row ≡ []
over_nothing next used a b k [] none = refl
over_nothing next used a b k (c ∷ row) none =
    over_append next used a b k (c ∷ []) row
    ∙ ap (λ (l : List (List ℕ)). l ++ over next used a b k row) (over_none next used a b k c (none c (in_first c row)))
    ∙ over_nothing next used a b k row (λ d has. none d (in_rest c row d has))

-- ---- they rise

across : (next : ℕ → List ℕ) (used : List ℕ) (a b k c : ℕ) (cs : List ℕ) → ((d : ℕ) → Contains cs d → c < d) → (x y : List ℕ) → Contains (by_node next used a b k c) x → Contains (flat_map (by_node next used a b k) cs) y → Before x y
across next used a b k c cs below x y in_x in_y =
    let path = used ++ a ∷ [] in
    let p = from_map (λ w. a ∷ w) (simple_along next path c b k) x in_x in
    let f = from_flat (by_node next used a b k) cs y in_y in
    let q = from_map (λ w. a ∷ w) (simple_along next path f.0 b k) y f.2 in
    let v = starts next path c b k p.0 p.1 in
    let w = starts next path f.0 b k q.0 q.1 in
    let less : Before p.0 q.0 = subst (λ (s : List ℕ). Before s q.0) v.1 (subst (λ (s : List ℕ). Before (c ∷ v.0) s) w.1 (before_head c f.0 v.0 w.0 (below f.0 f.1))) in
    subst (λ (s : List ℕ). Before s y) p.2 (subst (λ (s : List ℕ). Before (a ∷ p.0) s) q.2 (before_cons a p.0 q.0 less))

rows_ascend : (next : ℕ → List ℕ) (used : List ℕ) (a b k : ℕ) → ((c : ℕ) → Ascends Before (simple_along next (used ++ a ∷ []) c b k)) → (cs : List ℕ) → Ascends ◌<◌ cs → Ascends Before (flat_map (by_node next used a b k) cs)
rows_ascend next used a b k each [] h = tt
rows_ascend next used a b k each (c ∷ cs) h =
    ascends_append Before (by_node next used a b k c) (flat_map (by_node next used a b k) cs) (ascends_map a (simple_along next (used ++ a ∷ []) c b k) (each c)) (rows_ascend next used a b k each cs h.1) (across next used a b k c cs h.0)

ascends_either : (t : Bool) (w : List ℕ) (ws : List (List ℕ)) → Ascends Before ws → Ascends Before (cond t (w ∷ []) ws)
ascends_either true w ws h = ((λ y has. not_in_nothing y has), tt)
ascends_either false w ws h = h

pub simple_ascend : (next : ℕ → List ℕ) → ((a : ℕ) → Ascends ◌<◌ (next a)) → (used : List ℕ) (a b k : ℕ) → Ascends Before (simple_along next used a b k)
simple_ascend next rise used a b zero = ascends_either (a == b) (a ∷ []) [] tt
simple_ascend next rise used a b (suc k) =
    ascends_either (a == b) (a ∷ []) (over next used a b k (next a))
    (rows_ascend next used a b k (λ c. simple_ascend next rise (used ++ a ∷ []) c b k) (filter (is_new (used ++ a ∷ [])) (next a)) (ascends_filter (is_new (used ++ a ∷ [])) (next a) (rise a)))
