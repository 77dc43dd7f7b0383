-- The part of a listing that is asked for.
use Rattle.std.proofs.Common.{◌≡◌, ◌∙◌, ◌≤◌, ◌<◌, ◌+◌, ◌-◌, ℕ, zero, suc, List, [], ◌∷◌, length, length-drop, map, min, take, drop, Option, None, Some, inl, inr, sym, ap, refl, arith}
use Rattle.std.proofs.lemmas.Bool.{cases_lt}
use Rattle.std.proofs.lemmas.List.{drop-map, drop-take, take-map, take-take, take_all}
use Rattle.std.proofs.lemmas.List.{drop_min, take_min}
use Rattle.se_items.specs.Paging.{end_of, limited, page}
use Rattle.se_items.specs.declared.window.TheConstants.{MOST_ITEMS}

pub length-front : {A : Type 0} (k : ℕ) (xs : List A) → length (take k xs) ≤ k
length-front zero xs = omega arith
length-front (suc k) [] = omega arith
length-front (suc k) (x ∷ xs) = let le = length-front k xs in omega (arith, le)

limited-map : {A B : Type 0} (f : A → B) (limit : Option ℕ) (xs : List A) → limited limit (map f xs) ≡ map f (limited limit xs)
limited-map f None xs = refl
limited-map f (Some count) xs = take-map f count xs

-- the lines of a part are the part of the lines
pub page-map : {A B : Type 0} (f : A → B) (from : ℕ) (limit : Option ℕ) (xs : List A) → page from limit (map f xs) ≡ map f (page from limit xs)
unfolding page
page-map f from limit xs =
    ap (λ ys. limited limit (drop from ys)) (take-map f MOST_ITEMS xs) ∙ ap (limited limit) (drop-map f from (take MOST_ITEMS xs)) ∙ limited-map f limit (drop from (take MOST_ITEMS xs))

-- The part behind the first so many, of which there may be fewer.
behind : (from : ℕ) (items listed : List ℕ) (passed : ℕ) → listed ≡ take MOST_ITEMS items → passed ≡ min from (length listed) → drop passed listed ≡ drop from (take MOST_ITEMS items)
behind from items listed passed is at = ap (λ n. drop n listed) at ∙ drop_min from listed ∙ ap (drop from) is

pub page-rest : (from : ℕ) (items listed : List ℕ) (passed : ℕ) → listed ≡ take MOST_ITEMS items → passed ≡ min from (length listed)
    → take (length listed - passed) (drop passed listed) ≡ page from None items
unfolding page
page-rest from items listed passed is at =
    take_all (length listed - passed) (drop passed listed) (omega (arith, length-drop passed listed)) ∙ behind from items listed passed is at

pub page-cut : (from count : ℕ) (items listed : List ℕ) (passed : ℕ) (part : List ℕ) → listed ≡ take MOST_ITEMS items → passed ≡ min from (length listed)
    → part ≡ take count (take (length listed - passed) (drop passed listed)) → part ≡ page from (Some count) items
unfolding page
page-cut from count items listed passed part is at cut = cut ∙ ap (take count) (page-rest from items listed passed is at)

-- A part ends before an item, if there are so many.
pub page-end : {A : Type 0} (from : ℕ) (limit : Option ℕ) (xs : List A) → page from limit xs ≡ drop from (take (end_of from limit) xs)
unfolding page
page-end from None xs = refl
page-end from (Some count) xs = elim (cases_lt (from + count) MOST_ITEMS) [
  | inl lt ↦
      let e : min (from + count) MOST_ITEMS ≡ from + count = omega (arith, lt) in
      sym (drop-take from count (take MOST_ITEMS xs)) ∙ ap (drop from) (take-take (from + count) MOST_ITEMS xs (omega (arith, lt))) ∙ ap (λ n. drop from (take n xs)) (sym e)
  | inr le ↦
      let e : min (from + count) MOST_ITEMS ≡ MOST_ITEMS = omega (arith, le) in
      sym (drop-take from count (take MOST_ITEMS xs)) ∙ ap (drop from) (take_all (from + count) (take MOST_ITEMS xs) (omega (arith, le, length-front MOST_ITEMS xs))) ∙ ap (λ n. drop from (take n xs)) (sym e)
]

shorter : {A : Type 0} (k : ℕ) (xs : List A) → length (take k xs) ≤ length xs
shorter zero xs = omega arith
shorter (suc k) [] = omega arith
shorter (suc k) (x ∷ xs) = let le = shorter k xs in omega (arith, le)

-- A part is no longer than the whole.
pub page-shorter : {A : Type 0} (from : ℕ) (limit : Option ℕ) (xs : List A) → length (page from limit xs) ≤ length xs
unfolding page
page-shorter from None xs = omega (arith, length-drop from (take MOST_ITEMS xs), shorter MOST_ITEMS xs)
page-shorter from (Some count) xs = omega (arith, shorter count (drop from (take MOST_ITEMS xs)), length-drop from (take MOST_ITEMS xs), shorter MOST_ITEMS xs)
