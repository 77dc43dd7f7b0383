-- One more slot that keeps no text.
use Rattle.std.proofs.Common.{◌≡◌, ℕ, ◌+◌, List, [], ◌∷◌, ◌++◌, Option, None, length, arith, length-append}
use Rattle.std.proofs.lemmas.List.Elements.{All-append, All-cons, All-nil}
use Rattle.kept_texts.specs.declared.kept.KeptText.{KeptText}
use Rattle.kept_texts.specs.KeptTexts.{AreTexts, IsText}

pub one_longer : (n : ℕ) (slots more : List (Option KeptText)) → more ≡ slots ++ None ∷ [] → length slots ≡ n → length more ≡ n + 1
one_longer n slots more e h = rw e (omega (arith, h, length-append slots (None ∷ [])))

pub one_more : (text : ℕ → ℕ → List ℕ) (slots more : List (Option KeptText)) → more ≡ slots ++ None ∷ [] → AreTexts text slots → AreTexts text more
one_more text slots more e h = rw e (All-append (IsText text) slots (None ∷ []) h (All-cons (IsText text) None [] tt (All-nil (IsText text))))
