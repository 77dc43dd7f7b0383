-- Numbers within a span.
use Rattle.std.proofs.Common.{◌≡◌, ℕ, ◌+◌, ◌-◌, ◌<◌, ◌≤◌, Bool, true, false, List, arith}
use Rattle.std.specs.Prelude.{◌&&◌, nat_le}
use Rattle.std.specs.List.{All, list_any, list_all, range_with_len}
use Rattle.std.proofs.lemmas.Bool.{leb-true, le-leb}
use Rattle.std.proofs.lemmas.List.Elements.{All-contains}
use Rattle.pol_bitmap.specs.Nodes.{IsLeastFrom}
use Rattle.pol_bitmap.proofs.Elements.{range_holds, contains_range}
use Rattle.rule_tests.proofs.ListTests.{same_tests, and_both, and_from, any_from, any_to, all_at, all_from}

abbrev pub within : ℕ → ℕ → ℕ → Bool
within low high n = nat_le low n && nat_le n high

-- the least number at or above the first decides
pub some_within : (numbers : List ℕ) (low high found : ℕ) → IsLeastFrom numbers low found → list_any (within low high) numbers ≡ nat_le found high
some_within numbers low high found least = same_tests _ _
    (λ e.
    let p = any_to (within low high) numbers e in
    let b = and_both (nat_le low p.one) (nat_le p.one high) p.passes in
    let above = All-contains (λ c. low ≤ c → found ≤ c) numbers p.one least.least p.there (leb-true low p.one b.0) in
    le-leb found high (omega (arith, above, leb-true p.one high b.1)))
    (λ e. any_from (within low high) numbers found least.there (and_from (nat_le low found) (nat_le found high) (le-leb low found least.above) e))

pub none_within : (numbers : List ℕ) (low high : ℕ) → All (λ n. n < low) numbers → list_any (within low high) numbers ≡ false
none_within numbers low high below = same_tests _ _
    (λ e.
    let p = any_to (within low high) numbers e in
    let b = and_both (nat_le low p.one) (nat_le p.one high) p.passes in
    let under = All-contains (λ n. n < low) numbers p.one below p.there in
    absurd (omega (arith, under, leb-true low p.one b.0)))
    (λ e. absurd cc)

-- ---- all numbers of a span

pub all_in_range : (p : ℕ → Bool) (low high : ℕ) → ((k : ℕ) → low ≤ k → k < high + 1 → p k ≡ true) → list_all p (range_with_len low (high + 1 - low)) ≡ true
all_in_range p low high h = all_from p (range_with_len low (high + 1 - low)) λ k there.
    let w = All-contains (λ b. (low ≤ b) × (b < low + (high + 1 - low))) (range_with_len low (high + 1 - low)) k (range_holds low (high + 1 - low)) there in
    h k w.0 (omega (arith, w.0, w.1))

pub one_fails : (p : ℕ → Bool) (low high k : ℕ) → low ≤ k → k < high + 1 → p k ≡ false → list_all p (range_with_len low (high + 1 - low)) ≡ false
one_fails p low high k le lt e = same_tests _ _
    (λ t. let h = all_at p (range_with_len low (high + 1 - low)) t k (contains_range low (high + 1 - low) k le (omega (arith, le, lt))) in absurd cc)
    (λ t. absurd cc)

-- ---- some number of some span

pub swapped : {X Y : Type 0} (related : X → Y → Bool) (xs : List X) (ys : List Y) → list_any (λ x. list_any (λ y. related x y) ys) xs ≡ list_any (λ y. list_any (λ x. related x y) xs) ys
swapped related xs ys = same_tests _ _
    (λ e.
    let p = any_to (λ x. list_any (λ y. related x y) ys) xs e in
    let q = any_to (λ y. related p.one y) ys p.passes in
    any_from (λ y. list_any (λ x. related x y) xs) ys q.one q.there (any_from (λ x. related x q.one) xs p.one p.there q.passes))
    (λ e.
    let p = any_to (λ y. list_any (λ x. related x y) xs) ys e in
    let q = any_to (λ x. related x p.one) xs p.passes in
    any_from (λ x. list_any (λ y. related x y) ys) xs q.one q.there (any_from (λ y. related q.one y) ys p.one p.there q.passes))
