-- The set of numbers has each of them, and no other bit.
use Rattle.std.proofs.Common.{◌≡◌, ◌↔◌, inl, inr, ℕ, ◌+◌, ◌<◌, ◌≤◌, ◌^◌, false, Result, Ok, Err, IfOk, List, [], ◌∷◌, refl, ap, ◌∙◌, arith}
use Rattle.std.specs.Prelude.{nat_lt}
use Rattle.std.specs.List.{All, AllByRecursion, Contains}
use Rattle.std.proofs.lemmas.Bool.{cases_eq, cases_lt, eq-eqb, ne_eqb, lt-ltb, ltb-true}
use Rattle.std.proofs.lemmas.List.Elements.{Contains-append_right, Contains-append_cases}
use Rattle.pol_bitmap.specs.declared.Node.{Node}
use Rattle.pol_bitmap.specs.Nodes.{bits_of}
use Rattle.pol_bitmap.specs.Sets.{IsSet}
use Rattle.pol_bitmap.proofs.Elements.{contains_one, contains_first}
use Rattle.pol_bitmap.proofs.BitLists.{RisesFrom, rises_same, bits_rise}
use Rattle.set_nodes.specs.SetNodes.{set_of, with_value, rising, set_of_values}
use Rattle.set_nodes.proofs.SetBits.{each-fits, set_of-set, set_of-bits, set_of_its_bits}

-- ---- one number more, by how it compares with the first

module _ (value first : ℕ) (others : List ℕ) where
  above : first < value → with_value value (first ∷ others) ≡ first ∷ with_value value others
  above lt = rw (lt-ltb first value lt) refl

  there : first ≡ value → with_value value (first ∷ others) ≡ first ∷ others
  there e = let low : nat_lt first value ≡ false = grind (arith, ltb-true) in rw (low, eq-eqb first value e) refl

  below : value < first → with_value value (first ∷ others) ≡ value ∷ first ∷ others
  below lt = let low : nat_lt first value ≡ false = grind (arith, ltb-true) in rw (low, ne_eqb first value (λ e. absurd (omega (arith, lt, e)))) refl

-- a number is below another, is it, or is above it
data Compared (a b : ℕ) : Type 0 where
  Less : a < b → Compared a b
  Same : a ≡ b → Compared a b
  More : b < a → Compared a b

compared : (a b : ℕ) → Compared a b
compared a b = elim (cases_lt a b) [
  | inl lt ↦ Less lt
  | inr le ↦ elim (cases_eq a b) [
    | inl same ↦ Same same
    | inr other ↦ More (omega (arith, le, other))
  ]
]

-- ---- they rise

with_value-rises : (least value : ℕ) (xs : List ℕ) → least ≤ value → RisesFrom least xs → RisesFrom least (with_value value xs)
with_value-rises least value [] le h = (le, tt)
with_value-rises least value (x ∷ xs) le h = elim (compared x value) [
  | Less lt ↦ rw (above value x xs lt) (h.0, with_value-rises (x + 1) value xs (omega (arith, lt)) h.1)
  | Same e ↦ rw (there value x xs e) h
  | More lt ↦ rw (below value x xs lt) (le, (omega (arith, lt), h.1))
]

rising-rises : (values : List ℕ) → RisesFrom 0 (rising values)
unfolding rising
rising-rises [] = tt
rising-rises (value ∷ values) = with_value-rises 0 value (rising values) (omega arith) (rising-rises values)

-- ---- they have the numbers

with_value-gives : (value c : ℕ) (xs : List ℕ) → Contains (with_value value xs) c → Contains (value ∷ xs) c
with_value-gives value c [] m = m
with_value-gives value c (x ∷ xs) m = elim (compared x value) [
  | Less lt ↦ elim (Contains-append_cases (x ∷ []) (with_value value xs) c (rw (above value x xs lt) at m)) [
    | inl one ↦ rw (← contains_one c x one) (Contains-append_right (value ∷ []) (x ∷ xs) x (contains_first x xs))
    | inr more ↦ elim (Contains-append_cases (value ∷ []) xs c (with_value-gives value c xs more)) [
      | inl one ↦ rw (← contains_one c value one) (contains_first value (x ∷ xs))
      | inr rest ↦ Contains-append_right (value ∷ x ∷ []) xs c rest
    ]
  ]
  | Same e ↦ Contains-append_right (value ∷ []) (x ∷ xs) c (rw (there value x xs e) at m)
  | More lt ↦ rw (below value x xs lt) at m
]

with_value-has : (value c : ℕ) (xs : List ℕ) → Contains (value ∷ xs) c → Contains (with_value value xs) c
with_value-has value c [] m = m
with_value-has value c (x ∷ xs) m = elim (compared x value) [
  | Less lt ↦ rw (above value x xs lt) (elim (Contains-append_cases (value ∷ []) (x ∷ xs) c m) [
    | inl one ↦ Contains-append_right (x ∷ []) (with_value value xs) c (with_value-has value c xs (rw (← contains_one c value one) (contains_first value xs)))
    | inr rest ↦ elim (Contains-append_cases (x ∷ []) xs c rest) [
      | inl one ↦ rw (← contains_one c x one) (contains_first x (with_value value xs))
      | inr more ↦ Contains-append_right (x ∷ []) (with_value value xs) c (with_value-has value c xs (Contains-append_right (value ∷ []) xs c more))
    ]
  ])
  | Same e ↦ rw (there value x xs e) (elim (Contains-append_cases (value ∷ []) (x ∷ xs) c m) [
    | inl one ↦ rw (← contains_one c value one, ← e) (contains_first x xs)
    | inr rest ↦ rest
  ])
  | More lt ↦ rw (below value x xs lt) m
]

rising-gives : (values : List ℕ) (c : ℕ) → Contains (rising values) c → Contains values c
unfolding rising
rising-gives [] c m = m
rising-gives (value ∷ values) c m = elim (Contains-append_cases (value ∷ []) (rising values) c (with_value-gives value c (rising values) m)) [
  | inl one ↦ rw (← contains_one c value one) (contains_first value values)
  | inr rest ↦ Contains-append_right (value ∷ []) values c (rising-gives values c rest)
]

rising-has : (values : List ℕ) (c : ℕ) → Contains values c → Contains (rising values) c
unfolding rising
rising-has [] c m = m
rising-has (value ∷ values) c m = with_value-has value c (rising values) (elim (Contains-append_cases (value ∷ []) values c m) [
  | inl one ↦ rw (← contains_one c value one) (contains_first value (rising values))
  | inr rest ↦ Contains-append_right (value ∷ []) (rising values) c (rising-has values c rest)
])

-- ---- they fit

with_value-fits : (value : ℕ) (xs : List ℕ) → value < 2 ^ 32 → AllByRecursion (λ x. x < 2 ^ 32) xs → AllByRecursion (λ x. x < 2 ^ 32) (with_value value xs)
with_value-fits value [] fit h = (fit, tt)
with_value-fits value (x ∷ xs) fit h = elim (compared x value) [
  | Less lt ↦ rw (above value x xs lt) (h.0, with_value-fits value xs fit h.1)
  | Same e ↦ rw (there value x xs e) h
  | More lt ↦ rw (below value x xs lt) (fit, h)
]

rising-fits : (values : List ℕ) → AllByRecursion (λ x. x < 2 ^ 32) values → AllByRecursion (λ x. x < 2 ^ 32) (rising values)
unfolding rising
rising-fits [] h = tt
rising-fits (value ∷ values) h = with_value-fits value (rising values) h.0 (rising-fits values h.1)

-- ---- their set

pub values_set : (values : List ℕ) → All (λ value. value < 2 ^ 32) values → IsSet (set_of_values values)
values_set values fit = set_of-set 0 (rising values) (rising-rises values) (rising-fits values (each-fits values fit))

pub values_bits : (values : List ℕ) (bit : ℕ) → All (λ value. value < 2 ^ 32) values → Contains (bits_of (set_of_values values)) bit ↔ Contains values bit
values_bits values bit fit =
    let same : bits_of (set_of_values values) ≡ rising values = set_of-bits 0 (rising values) (rising-rises values) (rising-fits values (each-fits values fit)) in
    rw same (rising-gives values bit, rising-has values bit)

pub set_with_values : (s : List Node) (values : List ℕ) → IsSet s → ((bit : ℕ) → Contains (bits_of s) bit ↔ Contains values bit) → s ≡ set_of_values values
set_with_values s values h each =
    set_of_its_bits s h ∙ ap set_of (rises_same 0 0 (bits_of s) (rising values) (bits_rise 0 s h.0) (rising-rises values) λ bit. (
      λ m. rising-has values bit ((each bit).0 m),
      λ m. (each bit).1 (rising-gives values bit m),
    ))

-- a set that was made of numbers, if memory sufficed
pub made_of_values : {E : Type 0} (r : Result (List Node) E) (values : List ℕ) → IfOk r IsSet → IfOk r (λ s. (bit : ℕ) → Contains (bits_of s) bit ↔ Contains values bit) → IfOk r (λ s. s ≡ set_of_values values)
made_of_values (Ok s) values h each = set_with_values s values h each
made_of_values (Err f) values h each = tt
