-- Numbers one after the other, those that pass a test, and lists that are made of them.
use Rattle.std.proofs.Common.{◌≡◌, ℕ, zero, suc, ◌+◌, Bool, cond, List, [], ◌∷◌, ◌++◌, refl, sym, ap, ◌∙◌, arith}
use Rattle.std.specs.List.{filter, flat_map, range_with_len}
use Rattle.std.proofs.lemmas.List.{flat_map_more}
use Rattle.std.proofs.lemmas.List.Elements.{filter-append}

-- a range is one range behind another
pub range_split : (a m n : ℕ) → range_with_len a (m + n) ≡ range_with_len a m ++ range_with_len (a + m) n
range_split a zero n =
    let e : 0 + n ≡ n = omega arith in
    let f : a + 0 ≡ a = omega arith in
    rw (e, f) refl
range_split a (suc m) n =
    let e : suc m + n ≡ suc (m + n) = omega arith in
    let f : a + suc m ≡ a + 1 + m = omega arith in
    rw (e, f) (ap (λ (xs : List ℕ). a ∷ xs) (range_split (a + 1) m n))

-- one number more
pub range_more : (a n : ℕ) → range_with_len a (n + 1) ≡ range_with_len a n ++ (a + n) ∷ []
range_more a n = range_split a n 1

-- one number more, where it passes
pub filter_range_one : (p : ℕ → Bool) (a n x : ℕ) → a + n ≡ x → filter p (range_with_len a (n + 1)) ≡ filter p (range_with_len a n) ++ cond (p x) (x ∷ []) []
filter_range_one p a n x e =
    ap (filter p) (range_more a n) ∙ filter-append p (range_with_len a n) ((a + n) ∷ []) ∙ ap (λ (y : ℕ). filter p (range_with_len a n) ++ cond (p y) (y ∷ []) []) e

-- one number more, and the list that is made of it
pub flat_range_more : {X : Type 0} (f : ℕ → List X) (n : ℕ) → flat_map f (range_with_len 0 (n + 1)) ≡ flat_map f (range_with_len 0 n) ++ f n
flat_range_more f n =
    let e : 0 + n ≡ n = omega arith in
    ap (flat_map f) (range_more 0 n ∙ ap (λ (x : ℕ). range_with_len 0 n ++ x ∷ []) e) ∙ sym (flat_map_more f [] (range_with_len 0 n) n)
