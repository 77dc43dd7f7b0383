-- The lengths of lists by where each of them ends.
use Rattle.std.proofs.Common.{◌≡◌, ℕ, zero, suc, ◌+◌, ◌-◌, ◌<◌, ◌≤◌, List, [], ◌∷◌, ◌++◌, Some, length, take, get_or, slice_get, sum, refl, sym, ap, ◌∙◌, arith}
use Rattle.std.proofs.lemmas.List.{take_all}
use Rattle.std.proofs.lemmas.List.Sums.{sum_by-cons, sum_by_more}
use Rattle.pol_read.specs.Inner.RunningSums.{lengths_between, AreEnds}

pub length_between : (start : ℕ) (ends : List ℕ) → length (lengths_between start ends) ≡ length ends
unfolding lengths_between
length_between start [] = refl
length_between start (e ∷ es) = ap suc (length_between e es)

-- where one of them begins
sum_before : (start : ℕ) (ends : List ℕ) (i : ℕ) → AreEnds start ends → i ≤ length ends → start + sum (take i (lengths_between start ends)) ≡ get_or (start ∷ ends) i 0
unfolding lengths_between AreEnds
sum_before start ends zero h le = omega arith
sum_before start [] (suc i) h le = absurd (omega (arith, le))
sum_before start (e ∷ es) (suc i) h le =
    let rest : e + sum (take i (lengths_between e es)) ≡ get_or (e ∷ es) i 0 = sum_before e es i h.2 (omega (arith, le)) in
    omega (arith, h.0, rest, sum_by-cons (λ (x : ℕ). x) (e - start) (take i (lengths_between e es)))

pub first_start : (ends : List ℕ) → sum (take 0 (lengths_between 0 ends)) ≡ 0
first_start ends = refl

pub later_start : (ends : List ℕ) (i : ℕ) → AreEnds 0 ends → i < length ends → sum (take (i + 1) (lengths_between 0 ends)) ≡ get_or ends i 0
later_start ends i h lt =
    let next : i + 1 ≡ suc i = omega arith in
    let whole : 0 + sum (take (suc i) (lengths_between 0 ends)) ≡ get_or ends i 0 = sum_before 0 ends (suc i) h (omega (arith, lt)) in
    rw next (omega (arith, whole))

pub within_limit : (start : ℕ) (ends : List ℕ) (i d : ℕ) → AreEnds start ends → i < length ends → get_or ends i d ≤ 400000000
unfolding AreEnds
within_limit start [] i d h lt = absurd (omega (arith, lt))
within_limit start (e ∷ es) zero d h lt = h.1
within_limit start (e ∷ es) (suc i) d h lt = within_limit e es i d h.2 (omega (arith, lt))

pub all_of_them : (xs : List ℕ) (n : ℕ) → n ≡ length xs → sum (take n xs) ≡ sum xs
all_of_them xs n e = ap (λ (ys : List ℕ). sum ys) (take_all n xs (omega (arith, e)))

-- ---- one more list

between_more : (start : ℕ) (ends : List ℕ) (end : ℕ) → lengths_between start (ends ++ end ∷ []) ≡ lengths_between start ends ++ (end - get_or (start ∷ ends) (length ends) 0) ∷ []
unfolding lengths_between
between_more start [] end = refl
between_more start (e ∷ es) end = ap (λ (ls : List ℕ). (e - start) ∷ ls) (between_more e es end)

ends_more : (start : ℕ) (ends : List ℕ) (end : ℕ) → AreEnds start ends → get_or (start ∷ ends) (length ends) 0 ≤ end → end ≤ 400000000 → AreEnds start (ends ++ end ∷ [])
unfolding AreEnds
ends_more start [] end h le limit = (le, limit, tt)
ends_more start (e ∷ es) end h le limit = (h.0, h.1, ends_more e es end h.2 le limit)

whole : (ends : List ℕ) → AreEnds 0 ends → sum (lengths_between 0 ends) ≡ get_or (0 ∷ ends) (length ends) 0
whole ends h =
    let all = all_of_them (lengths_between 0 ends) (length ends) (sym (length_between 0 ends)) in
    let last : 0 + sum (take (length ends) (lengths_between 0 ends)) ≡ get_or (0 ∷ ends) (length ends) 0 = sum_before 0 ends (length ends) h (omega arith) in
    omega (arith, all, last)

pub between_push : (ends : List ℕ) (total len : ℕ) → AreEnds 0 ends → total ≡ sum (lengths_between 0 ends) → lengths_between 0 (ends ++ (total + len) ∷ []) ≡ lengths_between 0 ends ++ len ∷ []
between_push ends total len h e =
    let last = whole ends h in
    between_more 0 ends (total + len) ∙ ap (λ (n : ℕ). lengths_between 0 ends ++ n ∷ []) (omega (arith, last, e))

pub ends_push : (ends : List ℕ) (total len : ℕ) → AreEnds 0 ends → total ≡ sum (lengths_between 0 ends) → total + len ≤ 400000000 → AreEnds 0 (ends ++ (total + len) ∷ [])
ends_push ends total len h e limit =
    let last = whole ends h in
    ends_more 0 ends (total + len) h (omega (arith, last, e)) limit

-- a list and those before it are no longer than all of them
pub within_sum : (xs : List ℕ) (i x : ℕ) → slice_get xs i ≡ Some x → sum (take i xs) + x ≤ sum xs
within_sum [] i x e = absurd cc
within_sum (y ∷ ys) zero x e =
    let same : y ≡ x = cc in
    omega (arith, same, sum_by-cons (λ (k : ℕ). k) y ys)
within_sum (y ∷ ys) (suc i) x e = omega (arith, within_sum ys i x e, sum_by-cons (λ (k : ℕ). k) y ys, sum_by-cons (λ (k : ℕ). k) y (take i ys))

-- ---- the search

-- where one list is left, the item is in it
pub one_left : (lengths : List ℕ) (i high n : ℕ) → i < high → high ≤ i + 1 → high ≤ length lengths → sum (take i lengths) ≤ n → n < sum (take high lengths) → n - sum (take i lengths) < get_or lengths i 0
one_left lengths i high n lt le within low above =
    let more : sum (take (i + 1) lengths) ≡ sum (take i lengths) + get_or lengths i 0 = sum_by_more (λ (x : ℕ). x) lengths i 0 (omega (arith, lt, within)) in
    let same : high ≡ i + 1 = omega (arith, lt, le) in
    let below : n < sum (take (i + 1) lengths) = rw same at above in
    omega (arith, more, below, low)
