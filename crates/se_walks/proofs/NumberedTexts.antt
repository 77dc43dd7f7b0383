-- Numbered texts, and ranges of numbers.
use Rattle.std.proofs.Common.{◌≡◌, ◌∙◌, ◌≤◌, ◌+◌, ◌++◌, ℕ, zero, suc, Bool, true, false, List, [], ◌∷◌, Option, None, Some, length, min, take, drop, inl, inr, refl, sym, ap, append_assoc, arith}
use Rattle.std.specs.Prelude.{if◌then◌else◌}
use Rattle.std.specs.List.{concat, flat_map, range_with_len}
use Rattle.pol_cursor.proofs.Ranges.{flat_range_more}
use Rattle.se_items.specs.Paging.{end_of, limited, most_items, page}
use Rattle.se_items.proofs.Pages.{page-end}
use Rattle.std.proofs.lemmas.Bool.{cases_lt}
use Rattle.std.proofs.lemmas.List.{drop_all}
use Rattle.se_walks.specs.Numbered.{numbered}

pub length-numbered : {A : Type 0} (f : ℕ → A → List ℕ) (n : ℕ) (xs : List A) → length (numbered f n xs) ≡ length xs
length-numbered f n [] = refl
length-numbered f n (x ∷ xs) = ap suc (length-numbered f (n + 1) xs)

pub take-numbered : {A : Type 0} (f : ℕ → A → List ℕ) (n k : ℕ) (xs : List A) → take k (numbered f n xs) ≡ numbered f n (take k xs)
take-numbered f n zero xs = refl
take-numbered f n (suc k) [] = refl
take-numbered f n (suc k) (x ∷ xs) = ap (λ rest. f n x ∷ rest) (take-numbered f (n + 1) k xs)

take-none : {A : Type 0} (count : ℕ) → take {A = A} count [] ≡ []
take-none zero = refl
take-none (suc count) = refl

shorter : {A : Type 0} (k : ℕ) (xs : List A) → length (take k xs) ≤ length xs
shorter zero xs = omega arith
shorter (suc k) [] = omega arith
shorter (suc k) (x ∷ xs) = let le = shorter k xs in omega (arith, le)

drop-numbered : {A : Type 0} (f : ℕ → A → List ℕ) (n k : ℕ) (xs : List A) → drop k (numbered f n xs) ≡ numbered f (n + k) (drop k xs)
drop-numbered f n zero xs = let e : n + 0 ≡ n = omega arith in rw e refl
drop-numbered f n (suc k) [] = refl
drop-numbered f n (suc k) (x ∷ xs) = let e : n + suc k ≡ n + 1 + k = omega arith in rw e (drop-numbered f (n + 1) k xs)

limited-numbered : {A : Type 0} (f : ℕ → A → List ℕ) (n : ℕ) (limit : Option ℕ) (xs : List A) → limited limit (numbered f n xs) ≡ numbered f n (limited limit xs)
limited-numbered f n None xs = refl
limited-numbered f n (Some count) xs = take-numbered f n count xs

-- a part of numbered items begins at its own number
pub page-numbered : {A : Type 0} (f : ℕ → A → List ℕ) (n from : ℕ) (limit : Option ℕ) (xs : List A) → page from limit (numbered f n xs) ≡ numbered f (n + from) (page from limit xs)
unfolding page
page-numbered f n from limit xs =
    ap (λ ys. limited limit (drop from ys)) (take-numbered f n most_items xs) ∙ ap (limited limit) (drop-numbered f n from (take most_items xs)) ∙ limited-numbered f (n + from) limit (drop from (take most_items xs))

-- of more items than there are none are left out
few-left : {A : Type 0} (from : ℕ) (limit : Option ℕ) (xs : List A) → length xs ≤ from → page from limit xs ≡ []
unfolding page
few-left from None xs le = drop_all from (take most_items xs) (omega (arith, le, shorter most_items xs))
few-left from (Some count) xs le = ap (take count) (drop_all from (take most_items xs) (omega (arith, le, shorter most_items xs))) ∙ take-none count

-- the text of those that are asked for, whose first number is known
pub text-is : {A : Type 0} (f : ℕ → A → List ℕ) (from : ℕ) (limit : Option ℕ) (xs part : List A) (first : ℕ) → part ≡ page from limit xs → first ≡ min from (length xs)
    → concat (numbered f (first + 1) part) ≡ concat (page from limit (numbered f 1 xs))
text-is f from limit xs part first is at = elim (cases_lt from (length xs)) [
  | inl lt ↦
      let e : first + 1 ≡ 1 + from = omega (arith, at, lt) in
      ap concat (ap (λ n. numbered f n part) e ∙ ap (numbered f (1 + from)) is ∙ sym (page-numbered f 1 from limit xs))
  | inr le ↦
      let none = few-left from limit xs le in
      ap concat (ap (numbered f (first + 1)) (is ∙ none) ∙ sym (page-numbered f 1 from limit xs ∙ ap (numbered f (1 + from)) none))
]

-- the texts of numbers, one number more
pub texts-so-far : (f : ℕ → List ℕ) (n : ℕ) (had mid has : List ℕ) → mid ≡ had ++ flat_map f (range_with_len 0 n) → has ≡ mid ++ f n → has ≡ had ++ flat_map f (range_with_len 0 (n + 1))
texts-so-far f n had mid has so_far next =
    rw (next, so_far, flat_range_more f n) (append_assoc had (flat_map f (range_with_len 0 n)) (f n))

-- The walks of a part are those of its numbers.
pub part-is : {A : Type 0} (f : ℕ → A → List ℕ) (from : ℕ) (limit : Option ℕ) (xs : List A) (more : Bool) (end : ℕ) (left : List (List ℕ)) → end ≡ end_of from limit → (more ≡ false → end ≡ 0)
    → left ≡ drop from (if more then numbered f 1 (take end xs) else []) → concat left ≡ concat (page from limit (numbered f 1 xs))
part-is f from limit xs true end left at none is = ap concat (is ∙ ap (drop from) (sym (take-numbered f 1 end xs) ∙ ap (λ n. take n (numbered f 1 xs)) at) ∙ sym (page-end from limit (numbered f 1 xs)))
part-is f from limit xs false end left at none is =
    let empty : end_of from limit ≡ 0 = sym at ∙ none refl in
    ap concat (is ∙ ap (λ n. drop from (take n (numbered f 1 xs))) (sym empty) ∙ sym (page-end from limit (numbered f 1 xs)))
