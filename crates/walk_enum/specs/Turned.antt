-- Graphs whose edges may be turned round.
use Rattle.std.specs.Prelude.{ℕ, Bool, if◌then◌else◌}

-- an edge, or one back where the graph is turned round
abbrev pub turned : Bool → (ℕ → ℕ → Bool) → ℕ → ℕ → Bool
turned reverse edge a b = if reverse then edge b a else edge a b
