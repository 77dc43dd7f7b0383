-- The patterns that looking criteria up asks for, and why one is not built.
use Rattle.std.specs.Prelude.{◌≡◌, ℕ, ⊤, Option, Some, None, List, ◌++◌}
use Rattle.se_outside.specs.Outside.{Rose}
use Rattle.se_outside.specs.Patterns.{IsPatternText}
use Rattle.se_outside.specs.declared.PatternKind.{PatternKind}
use Rattle.se_outside.specs.declared.PatternKind.TheVariants.{Syntax, Refused}

-- the texts that were asked for, where they are told
abbrev pub AskedFor : Option (List (List ℕ)) → Option (List (List ℕ)) → List (List ℕ) → Type 0
AskedFor None new texts = ⊤
AskedFor (Some had) new texts = new ≡ Some (had ++ texts)

-- why a pattern was not built
abbrev pub IsFaulty : ℕ → ℕ → List ℕ → PatternKind → Type 0
IsFaulty past now text Syntax = IsPatternText text → ⊥
IsFaulty past now text Refused = Rose past now
