-- Texts of pairs of numbers that are kept.
use Rattle.std.specs.Prelude.{◌≡◌, ℕ, List, Option, None, Some, ⊤}
use Rattle.std.specs.List.{All}
use Rattle.kept_texts.specs.declared.kept.KeptText.{KeptText}

-- What a slot keeps, if it does, is the text of its pair.
abbrev pub IsText : (ℕ → ℕ → List ℕ) → Option KeptText → Type 0
IsText text None = ⊤
IsText text (Some kept) = kept.text.items ≡ text kept.pair.from kept.pair.to

-- so in each of some slots
abbrev pub AreTexts : (ℕ → ℕ → List ℕ) → List (Option KeptText) → Type 0
AreTexts text slots = All (IsText text) slots
