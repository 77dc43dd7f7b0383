-- Numbers that were sorted, and each then kept once.
use Rattle.std.proofs.Common.{ℕ, List, [], sym, subst}
use Rattle.std.specs.Prelude.{◌↔◌, Contains, nat_eq}
use Rattle.std.specs.List.Retain.{IsFiltered, DiffersFromLast}
use Rattle.std.specs.List.Sorted.{IsPermutation, IsSorted, IsStrictlyIncreasing}
use Rattle.std.specs.Ordering.{nat_cmp}
use Rattle.std.proofs.lemmas.Map.Keys.{IsStrictlyIncreasing-dedup}
use Rattle.std.proofs.lemmas.List.Filters.{dedup_is}
use Rattle.std.proofs.lemmas.List.Kept.{Contains-dedup_nat, Contains-from_dedup}
use Rattle.std.proofs.lemmas.List.Sorted.{Contains-permutation, IsPermutation-sym}

-- they are the numbers
pub kept_once : (xs ys zs : List ℕ) → IsPermutation xs ys → IsFiltered (DiffersFromLast nat_eq) [] ys zs → (n : ℕ) → Contains zs n ↔ Contains xs n
kept_once xs ys zs p f n =
    let e = dedup_is nat_eq ys zs f in (
      λ h. Contains-permutation ys xs n (IsPermutation-sym xs ys p) (Contains-from_dedup nat_eq ys n (subst (λ (l : List ℕ). Contains l n) e h)),
      λ h. subst (λ (l : List ℕ). Contains l n) (sym e) (Contains-dedup_nat ys n (Contains-permutation xs ys n p h)),
    )

-- they rise
pub rise_once : (ys zs : List ℕ) → IsSorted nat_cmp ys → IsFiltered (DiffersFromLast nat_eq) [] ys zs → IsStrictlyIncreasing zs
rise_once ys zs h f = subst IsStrictlyIncreasing (sym (dedup_is nat_eq ys zs f)) (IsStrictlyIncreasing-dedup ys h)
