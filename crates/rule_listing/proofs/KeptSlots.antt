-- One more slot that keeps no text.
use Rattle.std.proofs.Common.{◌≡◌, ℕ, ◌+◌, List, [], ◌∷◌, ◌++◌, Option, None, length, arith, length-append}
use Rattle.std.specs.List.{All}
use Rattle.std.proofs.lemmas.List.Elements.{All-append, All-cons, All-nil}
use Rattle.pol_file.specs.declared.Parts.{Parts}
use Rattle.rule_listing.specs.declared.kept_texts.KeptText.{KeptText}
use Rattle.rule_listing.specs.Inner.KeptTexts.{IsKept}

pub one_longer : (n : ℕ) (slots more : List (Option KeptText)) → more ≡ slots ++ None ∷ [] → length slots ≡ n → length more ≡ n + 1
one_longer n slots more e h = rw e (omega (arith, h, length-append slots (None ∷ [])))

pub one_more : (policy : Parts) (slots more : List (Option KeptText)) → more ≡ slots ++ None ∷ [] → All (IsKept policy) slots → All (IsKept policy) more
one_more policy slots more e h = rw e (All-append (IsKept policy) slots (None ∷ []) h (All-cons (IsKept policy) None [] tt (All-nil (IsKept policy))))
