-- A listing has all the walks.
use Rattle.std.proofs.Common.{◌≡◌, ℕ, zero, suc, ◌+◌, ◌-◌, ◌<◌, List, [], length, get_or, refl, sym, ◌∙◌, arith, add-one, Some, slice_get}
use Rattle.std.proofs.lemmas.List.{ext_get_or}
use Rattle.std.proofs.lemmas.Option.{slice_get-get_or, get_or_from_slice_get}
use Rattle.walk_enum.specs.Moving.{IsListing}

listed_at : (all seen : List (List ℕ)) → IsListing all seen → (i : ℕ) → i < length seen → slice_get all i ≡ slice_get seen i
listed_at all seen h zero lt = h.first
listed_at all seen h (suc i) lt =
    let v : slice_get seen i ≡ Some (get_or seen i []) = slice_get-get_or seen i [] (omega (arith, lt)) in
    let w : slice_get seen (suc i) ≡ Some (get_or seen (suc i) []) = slice_get-get_or seen (suc i) [] lt in
    let m = h.next i (get_or seen i []) (get_or seen (suc i) []) v (rw add-one w) in
    let was : slice_get all i ≡ Some (get_or seen i []) = listed_at all seen h i (omega (arith, lt)) ∙ v in
    (rw add-one at (m.next refl i was)) ∙ sym w

pub listed_all : (all seen : List (List ℕ)) → IsListing all seen → seen ≡ all
listed_all all seen h =
    let n = length seen - 1 in
    let whole : n + 1 ≡ length seen = omega (arith, h.some) in
    let v : slice_get seen n ≡ Some (get_or seen n []) = slice_get-get_or seen n [] (omega (arith, whole)) in
    let m = h.last n (get_or seen n []) whole v in
    let long : n + 1 ≡ length all = m.last refl n (listed_at all seen h n (omega (arith, whole)) ∙ v) in
    ext_get_or [] seen all (sym whole ∙ long) λ i lt.
    sym (get_or_from_slice_get all i (get_or seen i []) [] (listed_at all seen h i lt ∙ slice_get-get_or seen i [] lt))
