-- The records of a list without their places, one after the other.
use Rattle.std.proofs.Common.{◌≡◌, ℕ, ◌+◌, List, [], ◌∷◌, ◌++◌, take, ap, ◌∙◌}
use Rattle.std.specs.Prelude.{Some, slice_get, map}
use Rattle.std.proofs.lemmas.List.{take_more, map_push}
use Rattle.std.proofs.lemmas.Option.{slice_get_within, get_or_from_slice_get}
use Rattle.pol_cursor.specs.References.{Placed, values_of}

pub copied_next : {A : Type 0} (records : List (Placed A)) (i : ℕ) (r : Placed A) → slice_get records i ≡ Some r → values_of (take (i + 1) records) ≡ values_of (take i records) ++ r.value ∷ []
copied_next {A} records i r e =
    ap (map (λ (s : Placed A). s.value)) (take_more records i r (slice_get_within records i r e) ∙ ap (λ (s : Placed A). take i records ++ s ∷ []) (get_or_from_slice_get records i r r e))
    ∙ map_push (λ (s : Placed A). s.value) (take i records) r
