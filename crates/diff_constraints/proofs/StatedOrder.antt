-- Constraints that compare as equal are the same.
use Rattle.std.proofs.Common.{◌≡◌, ℕ, zero, suc, ◌<◌, List, [], ◌∷◌, Bor, length, drop, map, min, refl, ap, arith}
use Rattle.std.specs.declared.cmp.Ordering.{Ordering}
use Rattle.std.specs.declared.cmp.Ordering.TheVariants.{Less, Equal, Greater}
use Rattle.std.specs.Ordering.{MatchOrdering, nat_cmp, on, ordering_then, then_cmp}
use Rattle.std.specs.Cmp.{nat_cmp_is}
use Rattle.std.specs.Cmp.Lexicographic.{slice_cmp}
use Rattle.pol_symtab.proofs.ByteOrder.{equal_is_same}
use Rattle.keyed_lists.specs.KeyOrder.{IsKeyOrder}
use Rattle.diff_entries.specs.Entries.{key_cmp, name_cmp}
use Rattle.diff_constraints.specs.StatedConstraints.{Stated, constraint_key_cmp, stated_cmp, stated_total}

-- ---- those that compare as equal

both_equal : (o p : Ordering) → ordering_then o p ≡ Equal → (o ≡ Equal) × (p ≡ Equal)
both_equal Less p e = absurd cc
both_equal Equal p e = (refl, e)
both_equal Greater p e = absurd cc

same_lists : {A : Type 0} (cmp : A → A → Ordering) → ((a b : A) → cmp a b ≡ Equal → a ≡ b) → (xs ys : List A) → slice_cmp cmp xs ys ≡ Equal → xs ≡ ys
same_lists cmp same [] [] e = refl
same_lists cmp same [] (y ∷ ys) e = absurd cc
same_lists cmp same (x ∷ xs) [] e = absurd cc
same_lists cmp same (x ∷ xs) (y ∷ ys) e =
    let h = both_equal (cmp x y) (slice_cmp cmp xs ys) e in
    rw (same x y h.0, same_lists cmp same xs ys h.1) refl

same_sets : (xs ys : List (List (List ℕ))) → slice_cmp key_cmp xs ys ≡ Equal → xs ≡ ys
same_sets = same_lists key_cmp (same_lists name_cmp equal_is_same)

same_stated : (a b : Stated) → stated_cmp a b ≡ Equal → a ≡ b
same_stated a b e =
    let h = both_equal (constraint_key_cmp a b) (then_cmp (on (λ s. s.line) name_cmp) (on (λ s. s.sets) (slice_cmp key_cmp)) a b) e in
    let k = both_equal (name_cmp a.class b.class) (then_cmp (on (λ s. s.permissions) name_cmp) (on (λ s. s.skeleton) name_cmp) a b) h.0 in
    let p = both_equal (name_cmp a.permissions b.permissions) (name_cmp a.skeleton b.skeleton) k.1 in
    let f = both_equal (name_cmp a.line b.line) (slice_cmp key_cmp a.sets b.sets) h.1 in
    let class : a.class ≡ b.class = equal_is_same a.class b.class k.0 in
    let permissions : a.permissions ≡ b.permissions = equal_is_same a.permissions b.permissions p.0 in
    let skeleton : a.skeleton ≡ b.skeleton = equal_is_same a.skeleton b.skeleton p.1 in
    let line : a.line ≡ b.line = equal_is_same a.line b.line f.0 in
    let sets : a.sets ≡ b.sets = same_sets a.sets b.sets f.1 in
    rw (class, permissions, skeleton, line, sets) refl

pub stated_order : IsKeyOrder stated_cmp
stated_order = record { total = stated_total; same = same_stated }

-- ---- lists of which one has ended

wider : (m n : ℕ) (o : Ordering) → MatchOrdering o (m < n) (m ≡ n) (n < m) → MatchOrdering o (suc m < suc n) (suc m ≡ suc n) (suc n < suc m)
wider m n Less h = omega (arith, h)
wider m n Equal h = ap suc h
wider m n Greater h = omega (arith, h)

by_length : (i : ℕ) (xs ys : List (List (List ℕ))) → i ≡ min (length xs) (length ys)
    → MatchOrdering (slice_cmp key_cmp (drop i xs) (drop i ys)) (length xs < length ys) (length xs ≡ length ys) (length ys < length xs)
by_length zero [] [] at = refl
by_length zero [] (y ∷ ys) at = omega arith
by_length zero (x ∷ xs) [] at = omega arith
by_length zero (x ∷ xs) (y ∷ ys) at = absurd (omega (arith, at))
by_length (suc i) [] ys at = absurd (omega (arith, at))
by_length (suc i) (x ∷ xs) [] at = absurd (omega (arith, at))
by_length (suc i) (x ∷ xs) (y ∷ ys) at = wider (length xs) (length ys) (slice_cmp key_cmp (drop i xs) (drop i ys)) (by_length i xs ys (omega (arith, at)))

-- at the end of one list, both compare by their lengths
pub ended : (i : ℕ) (xs ys : List (List (List ℕ))) → i ≡ min (length xs) (length ys) → slice_cmp key_cmp (drop i xs) (drop i ys) ≡ nat_cmp (length xs) (length ys)
ended i xs ys at = nat_cmp_is (length xs) (length ys) (slice_cmp key_cmp (drop i xs) (drop i ys)) (by_length i xs ys at)

-- ---- names that are compared where they stand

pub compared_by_bytes : (names others : List (Bor (List ℕ)))
    → slice_cmp (λ (x y : Bor (List ℕ)). slice_cmp nat_cmp x.now y.now) names others ≡ key_cmp (map (λ name. name.now) names) (map (λ name. name.now) others)
compared_by_bytes [] [] = refl
compared_by_bytes [] (y ∷ ys) = refl
compared_by_bytes (x ∷ xs) [] = refl
compared_by_bytes (x ∷ xs) (y ∷ ys) = ap (λ o. ordering_then (name_cmp x.now y.now) o) (compared_by_bytes xs ys)
