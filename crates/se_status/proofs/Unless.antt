-- A text that is answered unless a name is unknown.
use Rattle.std.proofs.Common.{◌≡◌, ◌++◌, ℕ, List, Option, Some, None, refl}
use Rattle.se_status.specs.Conclusion.{text_unless}

-- in two parts, one after the other
pub parts_then : (word : Option ℕ) (front rest whole : List ℕ) → front ++ rest ≡ whole → (text_unless word front).text ++ (text_unless word rest).text ≡ (text_unless word whole).text
parts_then None front rest whole is = is
parts_then (Some word) front rest whole is = refl
