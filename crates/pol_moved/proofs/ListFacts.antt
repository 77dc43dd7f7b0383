-- Lists: what holds of each element, and how long they are.
use Rattle.std.proofs.Common.{inl, inr, ◌≡◌, ℕ, zero, suc, ◌+◌, ◌*◌, ◌<◌, ◌≤◌, Bool, List, [], ◌∷◌, ◌++◌, length, arith}
use Rattle.std.specs.Prelude.{map}
use Rattle.std.specs.List.{flat_map, filter, range_with_len, AllByRecursion, Contains}
use Rattle.std.proofs.lemmas.Bool.{cases_Bool}
use Rattle.std.proofs.lemmas.List.{length-append}
use Rattle.std.proofs.lemmas.List.Concat.{flat_map-cons}
use Rattle.std.proofs.lemmas.List.Elements.{All-weaker, All-contains_itself, recursion_from_All}

pub all-append : {A : Type 0} (P : A → Type 0) (xs ys : List A) → AllByRecursion P xs → AllByRecursion P ys → AllByRecursion P (xs ++ ys)
all-append P [] ys first second = second
all-append P (x ∷ xs) ys first second = (first.0, all-append P xs ys first.1 second)

pub all-append_first : {A : Type 0} (P : A → Type 0) (xs ys : List A) → AllByRecursion P (xs ++ ys) → AllByRecursion P xs
all-append_first P [] ys h = tt
all-append_first P (x ∷ xs) ys h = (h.0, all-append_first P xs ys h.1)

pub all-append_second : {A : Type 0} (P : A → Type 0) (xs ys : List A) → AllByRecursion P (xs ++ ys) → AllByRecursion P ys
all-append_second P [] ys h = h
all-append_second P (x ∷ xs) ys h = all-append_second P xs ys h.1

-- a weaker fact
pub all-so : {A : Type 0} {P Q : A → Type 0} (xs : List A) → ((x : A) → P x → Q x) → AllByRecursion P xs → AllByRecursion Q xs
all-so [] so h = tt
all-so (x ∷ xs) so h = (so x h.0, all-so xs so h.1)

pub all-map : {A B : Type 0} (P : B → Type 0) (f : A → B) (xs : List A) → AllByRecursion (λ x. P (f x)) xs → AllByRecursion P (map f xs)
all-map P f [] h = tt
all-map P f (x ∷ xs) h = (h.0, all-map P f xs h.1)

pub all-flat_map : {A B : Type 0} (P : B → Type 0) (f : A → List B) (xs : List A) → AllByRecursion (λ x. AllByRecursion P (f x)) xs → AllByRecursion P (flat_map f xs)
all-flat_map P f [] h = tt
all-flat_map P f (x ∷ xs) h = rw flat_map-cons (all-append P (f x) (flat_map f xs) h.0 (all-flat_map P f xs h.1))

pub all-from_flat_map : {A B : Type 0} (P : B → Type 0) (f : A → List B) (xs : List A) → AllByRecursion P (flat_map f xs) → AllByRecursion (λ x. AllByRecursion P (f x)) xs
all-from_flat_map P f [] h = tt
all-from_flat_map P f (x ∷ xs) h =
    let parts : AllByRecursion P (f x ++ flat_map f xs) = rw flat_map-cons at h in
    (all-append_first P (f x) (flat_map f xs) parts, all-from_flat_map P f xs (all-append_second P (f x) (flat_map f xs) parts))

-- each of the numbers in a row
pub all-range : (P : ℕ → Type 0) (start count : ℕ) → ((i : ℕ) → start ≤ i → i < start + count → P i) → AllByRecursion P (range_with_len start count)
all-range P start zero each = tt
all-range P start (suc count) each = (each start (omega arith) (omega arith), all-range P (start + 1) count (λ i above below. each i (omega (arith, above)) (omega (arith, below))))

-- so many elements of each
pub length-flat_map-same : {A B : Type 0} (f : A → List B) (k : ℕ) (xs : List A) → AllByRecursion (λ x. length (f x) ≡ k) xs → length (flat_map f xs) ≡ length xs * k
length-flat_map-same f k [] h = omega arith
length-flat_map-same f k (x ∷ xs) h = rw flat_map-cons (omega (arith, length-append (f x) (flat_map f xs), h.0, length-flat_map-same f k xs h.1))

-- at most so many elements of each
pub length-flat_map-most : {A B : Type 0} (f : A → List B) (k : ℕ) (xs : List A) → AllByRecursion (λ x. length (f x) ≤ k) xs → length (flat_map f xs) ≤ length xs * k
length-flat_map-most f k [] h = omega arith
length-flat_map-most f k (x ∷ xs) h = rw flat_map-cons (omega (arith, length-append (f x) (flat_map f xs), h.0, length-flat_map-most f k xs h.1))

-- ---- those of which a test is true

pub all-filter : {A : Type 0} (P : A → Type 0) (test : A → Bool) (xs : List A) → AllByRecursion P xs → AllByRecursion P (filter test xs)
all-filter P test [] h = tt
all-filter P test (x ∷ xs) h = elim (cases_Bool (test x)) [
  | inl passes ↦ rw passes (h.0, all-filter P test xs h.1)
  | inr fails ↦ rw fails (all-filter P test xs h.1)
]

pub length-filter-most : {A : Type 0} (test : A → Bool) (xs : List A) → length (filter test xs) ≤ length xs
length-filter-most test [] = omega arith
length-filter-most test (x ∷ xs) = elim (cases_Bool (test x)) [
  | inl passes ↦ rw passes (omega (arith, length-filter-most test xs))
  | inr fails ↦ rw fails (omega (arith, length-filter-most test xs))
]

-- what is so of each member
pub all-members : {A : Type 0} (P : A → Type 0) (xs : List A) → ((x : A) → Contains xs x → P x) → AllByRecursion P xs
all-members P xs each = recursion_from_All P xs (All-weaker (λ x. Contains xs x) P each xs (All-contains_itself xs))
