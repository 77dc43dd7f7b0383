-- Keys that are added to a map of places, from the last of a list to the first.
use Rattle.std.proofs.Common.{◌≡◌, ℕ, ◌+◌, List, [], ◌∷◌, ◌++◌, length, refl, sym, ap, ◌∙◌, arith}
use Rattle.std.specs.declared.cmp.Ordering.{Ordering}
use Rattle.keyed_lists.specs.declared.pairing.Places.{Places}
use Rattle.keyed_lists.specs.declared.pairing.Side.{Side}
use Rattle.keyed_lists.specs.Inner.Adding.{added, with_place}

-- the last key of a list is added first
added_last : {K : Type 0} (cmp : K → K → Ordering) (side : Side) (place : ℕ) (keys : List K) (key : K) (entries : List (K × Places))
    → added cmp side place (keys ++ key ∷ []) entries ≡ added cmp side place keys (with_place cmp side (place + length keys) key entries)
unfolding added
added_last cmp side place [] key entries = let e : place + 0 ≡ place = omega arith in rw e refl
added_last cmp side place (other ∷ keys) key entries =
    let e : place + 1 + length keys ≡ place + length (other ∷ keys) = omega arith in
    ap (with_place cmp side place other) (added_last cmp side (place + 1) keys key entries ∙ ap (λ n. added cmp side (place + 1) keys (with_place cmp side n key entries)) e)

pub added_popped : {K : Type 0} (cmp : K → K → Ordering) (side : Side) (keys all : List K) (key : K) (entries : List (K × Places)) → all ≡ keys ++ key ∷ []
    → added cmp side 0 all entries ≡ added cmp side 0 keys (with_place cmp side (length keys) key entries)
added_popped cmp side keys all key entries is =
    let e : 0 + length keys ≡ length keys = omega arith in
    ap (λ ks. added cmp side 0 ks entries) is ∙ added_last cmp side 0 keys key entries ∙ ap (λ n. added cmp side 0 keys (with_place cmp side n key entries)) e

pub added_none : {K : Type 0} (cmp : K → K → Ordering) (side : Side) (keys : List K) (entries : List (K × Places)) → length keys ≡ 0 → added cmp side 0 keys entries ≡ entries
unfolding added
added_none cmp side [] entries none = refl
added_none cmp side (key ∷ keys) entries none = absurd (omega arith)
