-- The ioctl numbers that an extended access vector holds, from one of them on.
use Rattle.std.proofs.Common.{◌≡◌, ◌≢◌, ℕ, zero, suc, ◌+◌, ◌-◌, ◌*◌, ◌/◌, ◌%◌, ◌<◌, ◌≤◌, Bool, true, false, true≢false, inl, inr, List, [], ◌∷◌, refl, sym, ap, subst, ◌∙◌, arith}
use Rattle.std.specs.Prelude.{◌==◌, ◌&&◌}
use Rattle.std.specs.List.{All, Contains, filter, range_with_len}
use Rattle.std.proofs.lemmas.Bool.{cases_order, cond_both, eqb-true, eq-eqb}
use Rattle.std.proofs.lemmas.Bool.Decides.{eqb_tells}
use Rattle.std.proofs.lemmas.List.Elements.{All-cons, All-nil, All-contains, All-contains_itself, All-filter, All-weaker, All-from_get_or, Contains-get_or, Contains-append_right, Contains-append_cases, filter_passes}
use Rattle.std.proofs.lemmas.List.FromFn.{length-range_with_len, get_or-range_with_len}
use Rattle.pol_bitmap.specs.Nodes.{IsLeastFrom}
use Rattle.pol_avtab.specs.XPerms.{Numbers, has_xbit, holds, numbers_from, numbers_of, IsNextBit}

-- ---- the numbers from a on that pass a test

-- none passes
filter_none : (p : ℕ → Bool) (a n : ℕ) → ((c : ℕ) → a ≤ c → c < a + n → p c ≡ false) → filter p (range_with_len a n) ≡ []
filter_none p a zero none = refl
filter_none p a (suc n) none = rw (none a (omega arith) (omega arith)) (filter_none p (a + 1) n (λ c from below. none c (omega arith) (omega arith)))

-- the first one passes, and those after it
filter_first : (p : ℕ → Bool) (a n found rest : ℕ) → a ≤ found → found + 1 + rest ≡ a + n → ((c : ℕ) → a ≤ c → c < found → p c ≡ false) → p found ≡ true → filter p (range_with_len a n) ≡ found ∷ filter p (range_with_len (found + 1) rest)
filter_first p a zero found rest le end none here = absurd (omega arith)
filter_first p a (suc n) found rest le end none here = elim (cases_order a found) [
  | inl at ↦ let passes : p a ≡ true = ap p at ∙ here in
      let others : n ≡ rest = omega arith in
      rw (passes, others, at) refl
  | inr other ↦ elim other [
    | inl below ↦ rw (none a (omega arith) below) (filter_first p (a + 1) n found rest (omega arith) (omega arith) (λ c from. none c (omega arith)) here)
    | inr above ↦ absurd (omega arith)
  ]
]

within : (a n : ℕ) → All (λ c. (a ≤ c) × (c < a + n)) (range_with_len a n)
within a n = All-from_get_or (λ c. (a ≤ c) × (c < a + n)) (range_with_len a n) 0 λ i lt.
    let below : i < n = omega (arith, lt, length-range_with_len a n) in
    let e = get_or-range_with_len a n i 0 below in
    rw e (omega arith, omega arith)

-- what passes a test is kept
contains_nothing : (x : ℕ) → Contains [] x → ⊥
contains_nothing x h = omega (arith, h.1)

contains_one : (x y : ℕ) → Contains (y ∷ []) x → y ≡ x
contains_one x y h = All-contains (λ (z : ℕ). y ≡ z) (y ∷ []) x (All-cons (λ (z : ℕ). y ≡ z) y [] refl (All-nil (λ (z : ℕ). y ≡ z))) h

contains_kept : (p : ℕ → Bool) (xs : List ℕ) (x : ℕ) → p x ≡ true → Contains xs x → Contains (filter p xs) x
contains_kept p [] x e h = absurd (contains_nothing x h)
contains_kept p (y ∷ ys) x e h = elim (Contains-append_cases (y ∷ []) ys x h) [
  | inl one ↦ let same : y ≡ x = contains_one x y one in
      let passes : p y ≡ true = ap p same ∙ e in
      rw passes (subst (λ (z : ℕ). Contains (z ∷ filter p ys) x) (sym same) (Contains-get_or (x ∷ filter p ys) 0 x (omega arith)))
  | inr rest ↦ cond_both (p y) (y ∷ filter p ys) (filter p ys) (λ (zs : List ℕ). Contains zs x) (λ t. Contains-append_right (y ∷ []) (filter p ys) x (contains_kept p ys x e rest)) (λ t. contains_kept p ys x e rest)
]

-- ---- the numbers that are held

module _ (x : Numbers) where
  contains_held : (n : ℕ) → n < 65536 → holds x n ≡ true → Contains (numbers_of x) n
  unfolding numbers_from
  contains_held n lt h =
      let at : 0 + n ≡ n = omega arith in
      let there : Contains (range_with_len 0 65536) n = subst (Contains (range_with_len 0 65536)) (get_or-range_with_len 0 65536 n 0 lt ∙ at) (Contains-get_or (range_with_len 0 65536) n 0 (omega (arith, length-range_with_len 0 65536))) in
      contains_kept (holds x) (range_with_len 0 65536) n h there

  all_held : All (λ n. (holds x n ≡ true) × (n < 65536)) (numbers_of x)
  unfolding numbers_from
  all_held =
      let xs = filter (holds x) (range_with_len 0 65536) in
      let passes = filter_passes (holds x) (range_with_len 0 65536) in
      let below = All-filter (holds x) (λ c. (0 ≤ c) × (c < 0 + 65536)) (range_with_len 0 65536) (within 0 65536) in
      All-weaker (Contains xs) (λ n. (holds x n ≡ true) × (n < 65536)) (λ n m. (All-contains (λ n. holds x n ≡ true) xs n passes m, let b = All-contains (λ c. (0 ≤ c) × (c < 0 + 65536)) xs n below m in omega (arith, b.1))) xs (All-contains_itself xs)

  -- the least one from a number on
  pub least_held : (number found : ℕ) → number ≤ found → found < 65536 → holds x found ≡ true → ((c : ℕ) → number ≤ c → c < found → holds x c ≡ false) → IsLeastFrom (numbers_of x) number found
  least_held number found le lt here none = record {
    above = le;
    there = contains_held found lt here;
    least = All-weaker (λ n. (holds x n ≡ true) × (n < 65536)) (λ c. number ≤ c → found ≤ c) (λ c h from. elim (cases_order c found) [
      | inl at ↦ omega (arith, at)
      | inr other ↦ elim other [
        | inl below ↦ absurd (true≢false (sym h.0 ∙ none c from below))
        | inr above ↦ omega (arith, above)
      ]
    ]) (numbers_of x) all_held;
  }

  -- none from a number on
  pub none_held : (number : ℕ) → ((c : ℕ) → number ≤ c → c < 65536 → holds x c ≡ false) → All (λ n. n < number) (numbers_of x)
  none_held number none = All-weaker (λ n. (holds x n ≡ true) × (n < 65536)) (λ n. n < number) (λ c h. elim (cases_order c number) [
    | inl at ↦ absurd (true≢false (sym h.0 ∙ none c (omega (arith, at)) h.1))
    | inr other ↦ elim other [
      | inl below ↦ below
      | inr above ↦ absurd (true≢false (sym h.0 ∙ none c (omega (arith, above)) h.1))
    ]
  ]) (numbers_of x) all_held

both_false : (a b : Bool) → (a ≡ true → b ≡ false) → (a && b) ≡ false
both_false true b h = h refl
both_false false b h = refl

-- ---- by the kind of the record

-- numbers of one driver, whose number 0 is the first
module _ (x : Numbers) (is_one : x.xkind ≡ 1) (number first : ℕ) (at : first ≡ x.driver * 256) where
  one : (x.xkind == 1) ≡ true
  one = eq-eqb x.xkind 1 is_one

  out : (c : ℕ) → (c / 256 ≡ x.driver → has_xbit x.bits (c % 256) ≡ false) → holds x c ≡ false
  out c h = rw one (both_false (c / 256 == x.driver) (has_xbit x.bits (c % 256)) (λ e. h (eqb-true (c / 256) x.driver e)))

  pub next_of_driver : (bit : ℕ) → x.driver < 256 → IsNextBit x.bits (number - first) bit → IsLeastFrom (numbers_of x) number (first + bit)
  next_of_driver bit lt next =
      let high : (first + bit) / 256 ≡ x.driver = omega (arith, at, next.below) in
      let low : (first + bit) % 256 ≡ bit = omega (arith, at, next.below) in
      let here : holds x (first + bit) ≡ true = rw (one, eq-eqb _ _ high, low) next.there in
      least_held x number (first + bit) (omega (arith, next.above)) (omega (arith, at, next.below)) here (λ c from below. out c (λ e. next.least (c % 256) (omega (arith, at, e, from)) (omega (arith, at, e, below))))

  pub none_of_driver : ((b : ℕ) → number - first ≤ b → b < 256 → has_xbit x.bits b ≡ false) → All (λ n. n < number) (numbers_of x)
  none_of_driver none = none_held x number (λ c from below. out c (λ e. none (c % 256) (omega (arith, at, e, from)) (omega arith)))

-- whole drivers
module _ (x : Numbers) (is_other : x.xkind ≢ 1) (number : ℕ) where
  other : (x.xkind == 1) ≡ false
  other = elim (eqb_tells x.xkind 1) [
    | inl same ↦ absurd (is_other same.1)
    | inr differs ↦ differs.0
  ]

  pub this_driver : number < 65536 → has_xbit x.bits (number / 256) ≡ true → IsLeastFrom (numbers_of x) number number
  this_driver lt here = least_held x number number (omega arith) lt (rw other here) (λ c from below. absurd (omega arith))

  module _ (gone : has_xbit x.bits (number / 256) ≡ false) where
    past : (c : ℕ) → number ≤ c → (number / 256 + 1 ≤ c / 256 → has_xbit x.bits (c / 256) ≡ false) → holds x c ≡ false
    past c from h = rw other (elim (cases_order (c / 256) (number / 256)) [
      | inl at ↦ ap (has_xbit x.bits) at ∙ gone
      | inr order ↦ elim order [
        | inl below ↦ absurd (omega (arith, from, below))
        | inr above ↦ h (omega (arith, above))
      ]
    ])

    pub next_driver : (driver : ℕ) → IsNextBit x.bits (number / 256 + 1) driver → IsLeastFrom (numbers_of x) number (driver * 256)
    next_driver driver next =
        let high : driver * 256 / 256 ≡ driver = omega arith in
        let here : holds x (driver * 256) ≡ true = rw (other, high) next.there in
        least_held x number (driver * 256) (omega (arith, next.above)) (omega (arith, next.below)) here (λ c from below. past c from (λ le. next.least (c / 256) le (omega (arith, below))))

    pub no_driver : ((b : ℕ) → number / 256 + 1 ≤ b → b < 256 → has_xbit x.bits b ≡ false) → All (λ n. n < number) (numbers_of x)
    no_driver none = none_held x number (λ c from below. past c from (λ le. none (c / 256) le (omega (arith, below))))

-- ---- the numbers that are left

module _ (x : Numbers) (next : ℕ) (small : next ≤ 65536) where
  pub numbers_past : 65535 < next → numbers_from x next ≡ []
  unfolding numbers_from
  numbers_past past = filter_none (holds x) next (65536 - next) (λ c from below. absurd (omega arith))

  -- what is held is in the list
  not_held : (c : ℕ) → c < 65536 → (holds x c ≡ true → ⊥) → holds x c ≡ false
  not_held c lt h = by (holds x c) h
    where
      by : (b : Bool) → (b ≡ true → ⊥) → b ≡ false
      by true h = absurd (h refl)
      by false h = refl

  pub numbers_none : All (λ n. n < next) (numbers_of x) → numbers_from x next ≡ []
  unfolding numbers_from
  numbers_none none = filter_none (holds x) next (65536 - next) (λ c from below. not_held c (omega arith) (λ h. let lt : c < next = All-contains (λ n. n < next) (numbers_of x) c none (contains_held x c (omega arith) h) in omega arith))

  pub numbers_first : (found : ℕ) → IsLeastFrom (numbers_of x) next found → numbers_from x next ≡ found ∷ numbers_from x (found + 1)
  unfolding numbers_from
  numbers_first found least =
      let held = All-contains (λ n. (holds x n ≡ true) × (n < 65536)) (numbers_of x) found (all_held x) least.there in
      filter_first (holds x) next (65536 - next) found (65536 - (found + 1)) least.above (omega (arith, held.1)) (λ c from below. not_held c (omega (arith, held.1)) (λ h.
      let le : found ≤ c = All-contains (λ c. next ≤ c → found ≤ c) (numbers_of x) c least.least (contains_held x c (omega (arith, held.1)) h) from in omega arith)) held.0
