use Rattle.std.proofs.Common.{◌≡◌, ℕ, List, length}
use Rattle.kept_texts.specs.KeptTexts.{AreTexts}
use Rattle.kept_texts.proofs.kept.empty_slots.Given as goal

-- so many slots that keep nothing
abbrev pub invariant-slots : goal.invariant-slots
invariant-slots l = (length l.slots.items ≡ l._number) × ((text : ℕ → ℕ → List ℕ) → AreTexts text l.slots.items)
