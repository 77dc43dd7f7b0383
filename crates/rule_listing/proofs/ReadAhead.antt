-- Rules that are looked at before their lines are made.
use Rattle.std.proofs.Common.{◌≡◌, ℕ, ◌+◌, ◌<◌, Bool, List, [], ◌∷◌, ◌++◌, length, map, take, set, get_or, sym, ap, ◌∙◌}
use Rattle.std.proofs.lemmas.List.{map_push, take_more, take_more_set}

-- one more rule was looked at
pub looked_more : (looks : ℕ → Bool) (numbers : List ℕ) (i : ℕ) (plain : List Bool) (mark : Bool) → i < length numbers → i < length plain → mark ≡ looks (get_or numbers i 0) → take i plain ≡ map looks (take i numbers)
    → take (i + 1) (set plain i mark) ≡ map looks (take (i + 1) numbers)
looked_more looks numbers i plain mark lt room is was =
    take_more_set plain i mark room ∙ ap (λ (marks : List Bool). marks ++ mark ∷ []) was ∙ ap (λ (m : Bool). map looks (take i numbers) ++ m ∷ []) is
    ∙ sym (ap (map looks) (take_more numbers i 0 lt) ∙ map_push looks (take i numbers) (get_or numbers i 0))
