-- Every number has a line.
use Rattle.std.proofs.Common.{ℕ, List, [], ◌∷◌}
use Rattle.std.specs.Prelude.{⊤}
use Rattle.std.specs.List.{All}
use Rattle.std.proofs.lemmas.List.Elements.{All-nil, All-cons}

pub all_have_lines : (numbers : List ℕ) → All (λ n. ⊤) numbers
all_have_lines [] = All-nil (λ n. ⊤)
all_have_lines (n ∷ numbers) = All-cons (λ n. ⊤) n numbers tt (all_have_lines numbers)
