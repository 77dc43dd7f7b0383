-- Counts of the items of a list, one after the other.
use Rattle.std.proofs.Common.{◌≡◌, ℕ, zero, suc, ◌+◌, ◌≤◌, ◌<◌, Bool, true, false, cond, List, [], ◌∷◌, ◌++◌, Some, map, length, take, slice_get, get_or, refl, ◌∙◌, arith}
use Rattle.std.specs.Prelude.{nat_eq, slice_set}
use Rattle.std.specs.List.{All, count_by, sum_by, range_with_len}
use Rattle.std.proofs.lemmas.List.{take_more, length-take}
use Rattle.std.proofs.lemmas.List.Elements.{All-head, All-tail}
use Rattle.std.proofs.lemmas.List.FromFn.{get_or-map-range_with_len}
use Rattle.std.proofs.lemmas.List.Sums.{sum_by-cons, sum_by-append, sum_by_push, count_by-le-length}
use Rattle.std.proofs.lemmas.Bool.{ne_eqb}
use Rattle.std.proofs.lemmas.Bool.Decides.{Decides-eqb}
use Rattle.std.proofs.lemmas.Option.{get_or_from_slice_get, slice_get_within}

-- ---- one item more

pub so_many_more : {A : Type 0} (f : A → ℕ) (xs : List A) (i : ℕ) (x : A) → slice_get xs i ≡ Some x → sum_by f (take (i + 1) xs) ≡ sum_by f (take i xs) + f x
so_many_more f xs i x at =
    rw (take_more xs i x (slice_get_within xs i x at), get_or_from_slice_get xs i x x at) (sum_by_push f (take i xs) x)

pub one_more : {A : Type 0} (p : A → Bool) (xs : List A) (i : ℕ) (x : A) → slice_get xs i ≡ Some x → count_by p (take (i + 1) xs) ≡ count_by p (take i xs) + cond (p x) 1 0
one_more p xs i x at = so_many_more (λ y. cond (p y) 1 0) xs i x at

-- so many items are no more than that
pub at_most : {A : Type 0} (p : A → Bool) (xs : List A) (i : ℕ) → count_by p (take i xs) ≤ i
at_most p xs i = omega (arith, count_by-le-length p (take i xs), length-take i xs)

-- ---- items by their numbers

map_same : {X Y : Type 0} (f g : X → Y) → ((x : X) → f x ≡ g x) → (xs : List X) → map f xs ≡ map g xs
map_same f g h [] = refl
map_same f g h (x ∷ xs) = rw (h x, map_same f g h xs) refl

-- how many there are of each of the first twelve numbers
abbrev pub counts_by : {A : Type 0} → (A → ℕ) → List A → List ℕ
counts_by number_of xs = map (λ number. count_by (λ x. nat_eq (number_of x) number) xs) (range_with_len 0 12)

none_of_both : (b : Bool) → zero ≡ cond b zero zero
none_of_both true = refl
none_of_both false = refl

one_of_both : (b : Bool) (n : ℕ) → cond b 1 0 + cond b n 0 ≡ cond b (suc n) 0
one_of_both true n = omega arith
one_of_both false n = refl

-- items of one number
of_number : {A : Type 0} (number_of : A → ℕ) (k n : ℕ) (xs : List A) → All (λ x. number_of x ≡ k) xs → count_by (λ x. nat_eq (number_of x) n) xs ≡ cond (nat_eq k n) (length xs) 0
of_number number_of k n [] all = none_of_both (nat_eq k n)
of_number number_of k n (x ∷ xs) all =
    let here : number_of x ≡ k = All-head (λ x. number_of x ≡ k) x xs all in
    rw (sum_by-cons (λ x. cond (nat_eq (number_of x) n) 1 0) x xs, here, of_number number_of k n xs (All-tail (λ x. number_of x ≡ k) x xs all)) (one_of_both (nat_eq k n) (length xs))

-- what is written at one number, and what is not
untouched : (f : ℕ → ℕ) (v k a len : ℕ) → k < a → map f (range_with_len a len) ≡ map (λ n. cond (nat_eq k n) v (f n)) (range_with_len a len)
untouched f v k a zero lt = refl
untouched f v k a (suc len) lt =
    let other : nat_eq k a ≡ false = ne_eqb k a (λ e. omega (arith, e, lt)) in
    rw (other, untouched f v k (a + 1) len (omega (arith, lt))) refl

written : (f : ℕ → ℕ) (v r a len k : ℕ) → a + r ≡ k → slice_set (map f (range_with_len a len)) r v ≡ map (λ n. cond (nat_eq k n) v (f n)) (range_with_len a len)
written f v r a zero k e = refl
written f v zero a (suc len) k e =
    let same : nat_eq k a ≡ true = (Decides-eqb k a).1 (omega (arith, e)) in
    rw (same, untouched f v k (a + 1) len (omega (arith, e))) refl
written f v (suc r) a (suc len) k e =
    let other : nat_eq k a ≡ false = ne_eqb k a (λ h. omega (arith, e, h)) in
    rw (other, written f v r (a + 1) len k (omega (arith, e))) refl

added : (b : Bool) (f : ℕ → ℕ) (k n m : ℕ) → nat_eq k n ≡ b → cond b (f k + m) (f n) ≡ f n + cond b m 0
added true f k n m e = let same : k ≡ n = (Decides-eqb k n).0 e in rw same refl
added false f k n m e = omega arith

-- more items of one number
pub more_of_number : {A : Type 0} (number_of : A → ℕ) (xs ys : List A) (k : ℕ) → k < 12 → All (λ y. number_of y ≡ k) ys
    → slice_set (counts_by number_of xs) k (get_or (counts_by number_of xs) k 0 + length ys) ≡ counts_by number_of (xs ++ ys)
more_of_number number_of xs ys k lt all =
    let f : ℕ → ℕ = λ number. count_by (λ x. nat_eq (number_of x) number) xs in
    rw (get_or-map-range_with_len f 0 12 k k 0 lt (omega arith), written f (f k + length ys) k 0 12 k (omega arith))
    (map_same (λ n. cond (nat_eq k n) (f k + length ys) (f n)) (λ number. count_by (λ x. nat_eq (number_of x) number) (xs ++ ys))
    (λ n. added (nat_eq k n) f k n (length ys) refl
    ∙ rw (sum_by-append (λ x. cond (nat_eq (number_of x) n) 1 0) xs ys, of_number number_of k n ys all) refl)
    (range_with_len 0 12))

-- no number has more than there are items
pub within : {A : Type 0} (number_of : A → ℕ) (xs : List A) (k : ℕ) → k < 12 → get_or (counts_by number_of xs) k 0 ≤ length xs
within number_of xs k lt =
    rw (get_or-map-range_with_len (λ number. count_by (λ x. nat_eq (number_of x) number) xs) 0 12 k k 0 lt (omega arith)) (count_by-le-length (λ x. nat_eq (number_of x) k) xs)
