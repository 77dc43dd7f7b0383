-- The names of values that are taken one after the other.
use Rattle.std.proofs.Common.{◌≡◌, ℕ, ◌+◌, [], ◌∷◌, ◌++◌, sym, ap, ◌∙◌, arith}
use Rattle.std.specs.Prelude.{Option}
use Rattle.std.specs.List.{filter_map, range_with_len}
use Rattle.std.proofs.lemmas.List.{map-id}
use Rattle.std.proofs.lemmas.List.FromFn.{map-range_with_len_more}
use Rattle.std.proofs.lemmas.List.Elements.{filter_map-append}

range_more : (n next : ℕ) → next ≡ n + 1 → range_with_len 1 (n + 1) ≡ range_with_len 1 n ++ next ∷ []
range_more n next is =
    sym (map-id (range_with_len 1 (n + 1)))
    ∙ map-range_with_len_more (λ x. x) 1 n next (omega (arith, is))
    ∙ ap (λ xs. xs ++ next ∷ []) (map-id (range_with_len 1 n))

-- the name of one value more
pub names_more : {A : Type 0} (f : ℕ → Option A) (n next : ℕ) → next ≡ n + 1
    → filter_map f (range_with_len 1 n) ++ filter_map f (next ∷ []) ≡ filter_map f (range_with_len 1 next)
names_more f n next is =
    sym (ap (λ k. filter_map f (range_with_len 1 k)) is
    ∙ ap (filter_map f) (range_more n next is)
    ∙ filter_map-append f (range_with_len 1 n) (next ∷ []))
