-- The lines of listings by their numbers.
use Rattle.std.proofs.Common.{◌≡◌, ℕ, List, [], map, Some, option_map, slice_get, get_or, ap, ◌∙◌}
use Rattle.std.proofs.lemmas.Option.{slice_get-map, get_or_from_slice_get}

-- the line of a number is that of the record of the number
pub line_at : {A : Type 0} (line : A → List ℕ) (records : List A) (i : ℕ) (x : A) → slice_get records i ≡ Some x → get_or (map line records) i [] ≡ line x
line_at line records i x e = get_or_from_slice_get (map line records) i (line x) [] (slice_get-map line records i ∙ ap (option_map line) e)
