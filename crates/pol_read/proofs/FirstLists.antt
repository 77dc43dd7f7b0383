-- The lists in which each 64th item stands.
use Rattle.std.proofs.Common.{◌≡◌, ℕ, ◌+◌, ◌-◌, ◌*◌, ◌<◌, ◌≤◌, List, [], ◌∷◌, ◌++◌, length, take, get_or, replicate, sum, ap, ◌∙◌, arith, inl, inr}
use Rattle.std.proofs.lemmas.List.{take-take, length-append, length-take, length-replicate, take_all, take-append-le, get_or-take, get_or-replicate, get_or_append_left, get_or-append_right}
use Rattle.std.proofs.lemmas.List.Sums.{sum_by_push, sum_by-take-le}
use Rattle.std.proofs.lemmas.Bool.{cases_lt}
use Rattle.std.proofs.Math.Seq.{take-append_seam}
use Rattle.pol_read.specs.Inner.RunningSums.{HasItem, AreFirsts}

pub no_firsts : AreFirsts [] []
no_firsts = record {
  reach = omega arith;
  hold = λ k lt. absurd (omega (arith, lt));
}

-- ---- one more list

still_there : (lengths : List ℕ) (len list item : ℕ) → HasItem lengths list item → HasItem (lengths ++ len ∷ []) list item
still_there lengths len list item h =
    let within = h.within in
    record {
      within = omega (arith, within, length-append lengths (len ∷ []));
      begins = rw (take-append-le list lengths (len ∷ []) (omega (arith, within))) h.begins;
      ends = rw (take-append-le (list + 1) lengths (len ∷ []) (omega (arith, within))) h.ends;
    }

in_the_last : (lengths : List ℕ) (len item : ℕ) → sum lengths ≤ item → item < sum lengths + len → HasItem (lengths ++ len ∷ []) (length lengths) item
in_the_last lengths len item low high =
    let long = length-append lengths (len ∷ []) in
    record {
      within = omega (arith, long);
      begins = rw (take-append_seam lengths (len ∷ [])) low;
      ends = rw (take_all (length lengths + 1) (lengths ++ len ∷ []) (omega (arith, long))) (omega (arith, high, sum_by_push (λ (x : ℕ). x) lengths len));
    }

-- the first n numbers, filled up with that of the list that is added
filled_length : (firsts : List ℕ) (n list : ℕ) → length (take n firsts ++ replicate (n - length firsts) list) ≡ n
filled_length firsts n list =
    omega (arith, length-append (take n firsts) (replicate (n - length firsts) list), length-take n firsts, length-replicate (n - length firsts) list)

filled_before : (firsts : List ℕ) (n list k : ℕ) → k < n → k < length firsts → get_or (take n firsts ++ replicate (n - length firsts) list) k 0 ≡ get_or firsts k 0
filled_before firsts n list k lt there =
    get_or_append_left (take n firsts) (replicate (n - length firsts) list) 0 k (omega (arith, lt, there, length-take n firsts)) ∙ get_or-take n firsts k 0 lt

filled_behind : (firsts : List ℕ) (n list k : ℕ) → k < n → length firsts ≤ k → get_or (take n firsts ++ replicate (n - length firsts) list) k 0 ≡ list
filled_behind firsts n list k lt behind =
    let all : length (take n firsts) ≡ length firsts = omega (arith, length-take n firsts, lt, behind) in
    get_or-append_right (take n firsts) (replicate (n - length firsts) list) (length firsts) k 0 all behind ∙ get_or-replicate (n - length firsts) (k - length firsts) list 0 (omega (arith, lt, behind))

pub firsts_push : (lengths firsts : List ℕ) (len n : ℕ) → AreFirsts lengths firsts → sum lengths + len ≤ 64 * n → 64 * n < sum lengths + len + 64 → AreFirsts (lengths ++ len ∷ []) (take n firsts ++ replicate (n - length firsts) (length lengths))
firsts_push lengths firsts len n h reach few =
    let long = filled_length firsts n (length lengths) in
    record {
      reach = omega (arith, long, reach, sum_by_push (λ (x : ℕ). x) lengths len);
      hold = λ k lt. each k (omega (arith, lt, long));
    }
  where
    each : (k : ℕ) → k < n → HasItem (lengths ++ len ∷ []) (get_or (take n firsts ++ replicate (n - length firsts) (length lengths)) k 0) (64 * k)
    each k lt = elim (cases_lt k (length firsts)) [
      | inl there ↦ rw (filled_before firsts n (length lengths) k lt there) (still_there lengths len (get_or firsts k 0) (64 * k) (h.hold k there))
      | inr behind ↦ rw (filled_behind firsts n (length lengths) k lt behind) (in_the_last lengths len (64 * k) (omega (arith, behind, h.reach)) (omega (arith, lt, few)))
    ]

-- ---- the search

-- where one list begins in front of another, its number is lower
pub apart : (lengths : List ℕ) (low high n : ℕ) → sum (take low lengths) ≤ n → n < sum (take high lengths) → low < high
apart lengths low high n above below = elim (cases_lt low high) [
  | inl lt ↦ lt
  | inr le ↦ absurd (omega (arith, above, below, ap (λ (xs : List ℕ). sum xs) (take-take high low lengths le), sum_by-take-le (λ (x : ℕ). x) (take low lengths) high))
]
