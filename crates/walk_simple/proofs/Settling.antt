-- Numbers of steps that bound the walks to the target.
use Rattle.std.proofs.Common.{◌≡◌, ◌⊎◌, inl, inr, ℕ, zero, suc, ◌+◌, ◌<◌, ◌≤◌, Bool, true, false, ◌==◌, List, [], ◌∷◌, ◌++◌, length, set, replicate, refl, ap, subst, ◌∙◌, arith, get_or-set_same}
use Rattle.std.specs.Prelude.{slice_index, nat_le}
use Rattle.std.specs.List.{Contains, list_any}
use Rattle.std.proofs.lemmas.Bool.{cases_lt, eqb-true, leb-false, or_parts}
use Rattle.std.proofs.lemmas.List.{length-replicate}
use Rattle.std.proofs.Math.ListN.{length-set}
use Rattle.walk_enum.proofs.Elements.{not_in_nothing, in_cases}
use Rattle.walk_enum.proofs.Spreading.{set_cases}
use Rattle.walk_simple.specs.SimpleWalks.{simple_along}
use Rattle.walk_simple.specs.Inner.Tables.{AreBounds}
use Rattle.walk_simple.specs.Inner.Distances.{Bounds, Settles}
use Rattle.walk_simple.proofs.Walking.{no_end, no_steps, over_nothing}

bool_cases : (t : Bool) → (t ≡ true) ⊎ (t ≡ false)
bool_cases true = inl refl
bool_cases false = inr refl

pub same_node : (a b : ℕ) → (a == b) ≡ true → a ≡ b
same_node a b e = eqb-true a b e

-- a node that is not the target's own
not_target : (far : List ℕ) (c to : ℕ) → slice_index far to ≡ 0 → 0 < slice_index far c → (c == to) ≡ false
not_target far c to at some = elim (bool_cases (c == to)) [
  | inl e ↦ absurd (omega (arith, ap (slice_index far) (same_node c to e), at, some))
  | inr e ↦ e
]

short_at : (top n b : ℕ) → slice_index (replicate n top) b ≤ top
short_at top zero b = omega arith
short_at top (suc n) zero = omega arith
short_at top (suc n) (suc b) = short_at top n b

pub bounds_start : (next : ℕ → List ℕ) (to top n : ℕ) (far : List ℕ) → to < n → far ≡ set (replicate n top) to 0 → Bounds next to top far 0
bounds_start next to top n far lt is = record {
  target = at;
  short = λ c. elim (set_cases (replicate n top) to 0 c within) [
    | inl e ↦ omega (arith, ap (λ (l : List ℕ). slice_index l c) is, e.1)
    | inr e ↦ omega (arith, ap (λ (l : List ℕ). slice_index l c) is, e, short_at top n c)
  ];
  below = λ c k used le less. let none : 0 ≡ k = omega (arith, le) in
      subst (λ (j : ℕ). simple_along next used c to j ≡ []) none (no_steps next used c to (not_target far c to at (omega (arith, less))));
}
  where
    within : to < length {A = ℕ} (replicate n top)
    within = omega (arith, length-replicate {A = ℕ} n top, lt)

    at : slice_index far to ≡ 0
    at = ap (λ (l : List ℕ). slice_index l to) is ∙ get_or-set_same (replicate n top) to 0 0 within

pub bounds_more : (next : ℕ → List ℕ) (to top : ℕ) (old new : List ℕ) (d : ℕ) → Bounds next to top old d → Settles next old new d → d + 1 ≤ top → Bounds next to top new (d + 1)
bounds_more next to top old new d b s le = record {
  target = at;
  short = λ c. elim (s.cases c) [ inl e ↦ omega (arith, e, b.short c) | inr e ↦ omega (arith, e.1, le) ];
  below = λ c k used lk less. elim (cases_lt d k) [
    | inr low ↦ b.below c k used low (was c k low less)
    | inl more ↦ let is : suc d ≡ k = omega (arith, lk, more) in
        subst (λ (j : ℕ). simple_along next used c to j ≡ []) is (last c used (omega (arith, less, is)))
  ];
}
  where
    at : slice_index new to ≡ 0
    at = elim (s.cases to) [ inl e ↦ e ∙ b.target | inr e ↦ absurd (omega (arith, e.0, b.target)) ]

    was : (c k : ℕ) → k ≤ d → k < slice_index new c → k < slice_index old c
    was c k low less = elim (s.cases c) [ inl e ↦ omega (arith, e, less) | inr e ↦ omega (arith, e.0, low) ]

    last : (c : ℕ) (used : List ℕ) → d + 1 < slice_index new c → simple_along next used c to (suc d) ≡ []
    last c used less =
        no_end next used c to d (not_target new c to at (omega (arith, less)))
        ∙ over_nothing next used c to d (next c) (λ v has. b.below v d (used ++ c ∷ []) (omega arith) (s.rest c less v has))

pub bounds_done : (next : ℕ → List ℕ) (to most : ℕ) (far : List ℕ) → Bounds next to (most + 1) far most → AreBounds next to far
bounds_done next to most far b c k used less = b.below c k used (omega (arith, less, b.short c)) less

-- ---- one node after another

-- the nodes up to one are settled
pub record SettlesTo (next : ℕ → List ℕ) (old now : List ℕ) (steps node : ℕ) : Type 0 where
  pub long : length now ≡ length old
  pub cases : (c : ℕ) → (slice_index now c ≡ slice_index old c) ⊎ ((steps < slice_index old c) × (slice_index now c ≡ steps + 1))
  pub rest : (c : ℕ) → c < node → steps + 1 < slice_index now c → (s : ℕ) → Contains (next c) s → steps < slice_index old s

pub settles_none : (next : ℕ → List ℕ) (old : List ℕ) (steps : ℕ) → SettlesTo next old old steps 0
settles_none next old steps = record { long = refl; cases = λ c. inl refl; rest = λ c lt. absurd (omega (arith, lt)) }

past_end : (xs : List ℕ) (c : ℕ) → length xs ≤ c → slice_index xs c ≡ 0
past_end [] c le = refl
past_end (x ∷ xs) zero le = absurd (omega (arith, le))
past_end (x ∷ xs) (suc c) le = past_end xs c (omega (arith, le))

pub settles_all : (next : ℕ → List ℕ) (old now : List ℕ) (steps node : ℕ) → SettlesTo next old now steps node → length old ≤ node → Settles next old now steps
settles_all next old now steps node u le = record {
  long = u.long;
  cases = u.cases;
  rest = λ c less v has. elim (cases_lt c node) [
    | inl lt ↦ u.rest c lt less v has
    | inr past ↦ absurd (omega (arith, less, past_end now c (omega (arith, u.long, le, past))))
  ];
}

pub settles_new : (next : ℕ → List ℕ) (old now : List ℕ) (steps node : ℕ) → SettlesTo next old now steps node → node < length now → steps < slice_index now node → SettlesTo next old (set now node (steps + 1)) steps (node + 1)
settles_new next old now steps node u lt more = record {
  long = length-set now node (steps + 1) ∙ u.long;
  cases = λ c. elim (set_cases now node (steps + 1) c lt) [
    | inl e ↦ inr (subst (λ (n : ℕ). steps < slice_index old n) e.0 was, e.1)
    | inr e ↦ elim (u.cases c) [ inl f ↦ inl (e ∙ f) | inr f ↦ inr (f.0, e ∙ f.1) ]
  ];
  rest = λ c less far v has. elim (set_cases now node (steps + 1) c lt) [
    | inl e ↦ absurd (omega (arith, e.1, far))
    | inr e ↦ elim (cases_lt c node) [
      | inl before ↦ u.rest c before (omega (arith, e, far)) v has
      | inr past ↦
          let here : node ≡ c = omega (arith, less, past) in
          absurd (omega (arith, far, subst (λ (n : ℕ). slice_index (set now node (steps + 1)) n ≡ steps + 1) here (get_or-set_same now node (steps + 1) 0 lt)))
    ]
  ];
}
  where
    was : steps < slice_index old node
    was = elim (u.cases node) [ inl e ↦ omega (arith, e, more) | inr e ↦ e.0 ]

pub settles_old : (next : ℕ → List ℕ) (old now : List ℕ) (steps node : ℕ) → SettlesTo next old now steps node → ((s : ℕ) → Contains (next node) s → steps < slice_index now s) ⊎ (slice_index now node ≤ steps) → SettlesTo next old now steps (node + 1)
settles_old next old now steps node u why = record {
  long = u.long;
  cases = u.cases;
  rest = λ c less far v has. elim (cases_lt c node) [
    | inl before ↦ u.rest c before far v has
    | inr past ↦ let here : c ≡ node = omega (arith, less, past) in elim why [
      | inl each ↦ was v (each v (subst (λ (n : ℕ). Contains (next n) v) here has))
      | inr near ↦ absurd (omega (arith, far, near, ap (slice_index now) here))
    ]
  ];
}
  where
    was : (v : ℕ) → steps < slice_index now v → steps < slice_index old v
    was v more = elim (u.cases v) [ inl e ↦ omega (arith, e, more) | inr e ↦ e.0 ]

-- none of a row is near
pub none_near : (far : List ℕ) (steps : ℕ) (row : List ℕ) → list_any (λ s. nat_le (slice_index far s) steps) row ≡ false → (s : ℕ) → Contains row s → steps < slice_index far s
none_near far steps [] e s has = not_in_nothing s has
none_near far steps (x ∷ row) e s has =
    let p = or_parts (nat_le (slice_index far x) steps) (list_any (λ s. nat_le (slice_index far s) steps) row) e in
    elim (in_cases x row s has) [
      | inl same ↦ subst (λ (n : ℕ). steps < slice_index far n) same (leb-false (slice_index far x) steps p.0)
      | inr later ↦ none_near far steps row p.1 s later
    ]
