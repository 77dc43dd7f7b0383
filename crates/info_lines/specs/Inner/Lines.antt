-- The lines of listings.
use Rattle.std.specs.Prelude.{◌≡◌, ℕ, List, [], ◌∷◌, ◌++◌, Result, OnOk}
use Rattle.std.specs.declared.alloc.AllocError.{AllocError}

-- The next of the lines that were left was added to a buffer, if there was one.
abbrev pub PushesLine : List (List ℕ) → List (List ℕ) → List ℕ → List ℕ → Result (Unit {0}) AllocError → Type 0
PushesLine [] new had has result = OnOk result ((new ≡ []) × (has ≡ had))
PushesLine (line ∷ lines) new had has result = OnOk result ((new ≡ lines) × (has ≡ had ++ line))
