-- The counts of the sets of a pool, one after the other.
use Rattle.std.proofs.Common.{◌≡◌, ℕ, ◌+◌, ◌^◌, ◌<◌, ◌≤◌, List, [], ◌∷◌, ◌++◌, map, length, take, get_or, refl, sym, ap, subst, ◌∙◌, arith, Some, slice_get}
use Rattle.std.proofs.lemmas.List.{get_or-map, map-append, take_all, take_more}
use Rattle.std.proofs.lemmas.List.Elements.{All-get_or, All-more, All-nil}
use Rattle.std.proofs.lemmas.Option.{get_or_from_slice_get, slice_get_within}
use Rattle.pol_bitmap.specs.declared.Node.{Node}
use Rattle.pol_bitmap.specs.Nodes.{bits_of}
use Rattle.pol_bitmap.specs.Sets.{IsSet}
use Rattle.set_products.specs.Members.{bits_at}
use Rattle.set_products.specs.Inner.SetCounts.{AreCounts}
use Rattle.set_products.proofs.Rising.{bits_few}

abbrev size : List Node → ℕ
size ns = length (bits_of ns)

pub counted_none : (sets : List (List Node)) → AreCounts (take 0 sets) []
counted_none sets = record { form = All-nil IsSet; right = refl }

pub counted_more : (sets : List (List Node)) (counts : List ℕ) (n count : ℕ) (set : List Node) → slice_get sets n ≡ Some set → IsSet set → count ≡ length (bits_of set)
    → AreCounts (take n sets) counts → AreCounts (take (n + 1) sets) (counts ++ count ∷ [])
counted_more sets counts n count set is form right h =
    let within = slice_get_within sets n set is in
    let read = get_or_from_slice_get sets n set set is in
    record {
      form = All-more IsSet sets n set within h.form (subst IsSet (sym read) form);
      right = ap (λ (xs : List ℕ). xs ++ count ∷ []) h.right
          ∙ ap (λ (x : ℕ). map size (take n sets) ++ x ∷ []) (right ∙ ap size (sym read))
          ∙ sym (ap (map size) (take_more sets n set within) ∙ map-append size (take n sets) _);
    }

pub counted_all : (sets : List (List Node)) (counts : List ℕ) (n : ℕ) → length sets ≤ n → AreCounts (take n sets) counts → AreCounts sets counts
counted_all sets counts n le h = subst (λ (xs : List (List Node)). AreCounts xs counts) (take_all n sets le) h

-- a count that is read
pub count_is : (sets now : List (List Node)) (counts : List ℕ) (n count : ℕ) → AreCounts sets counts → sets ≡ now → n < length now → count ≡ get_or counts n count → count ≡ length (bits_at now n)
count_is sets now counts n count h is within read =
    let same : AreCounts now counts = subst (λ (xs : List (List Node)). AreCounts xs counts) is h in
    read ∙ ap (λ (xs : List ℕ). get_or xs n count) same.right ∙ get_or-map size now n [] count within

-- which is no more than there are numbers of 32 bits
pub count_few : (sets now : List (List Node)) (counts : List ℕ) (n count : ℕ) → AreCounts sets counts → sets ≡ now → n < length now → count ≡ length (bits_at now n) → count ≤ 2 ^ 32
count_few sets now counts n count h is within right =
    let same : AreCounts now counts = subst (λ (xs : List (List Node)). AreCounts xs counts) is h in
    omega (arith, right, bits_few _ (All-get_or IsSet now n [] within same.form))
