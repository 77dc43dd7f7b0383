-- Places of records that are all as long, one behind the other.
use Rattle.std.specs.Prelude.{ℕ, zero, suc, ◌+◌, List, [], ◌∷◌}

-- so many places from one on, each so far behind the one before it
unfoldable pub even_places : ℕ → ℕ → ℕ → List ℕ
even_places step place zero = []
even_places step place (suc n) = place ∷ even_places step (place + step) n
