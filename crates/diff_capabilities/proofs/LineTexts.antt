-- Lines that are taken one after the other.
use Rattle.std.proofs.Common.{◌≡◌, ℕ, ◌<◌, List, [], ◌∷◌, ◌++◌, length, refl, sym, ap, ◌∙◌, append_assoc, arith}
use Rattle.std.specs.Prelude.{Result, Ok}
use Rattle.std.specs.declared.alloc.AllocError.{AllocError}
use Rattle.std.proofs.lemmas.List.{append-nil}
use Rattle.info_lines.specs.Inner.Lines.{PushesLine}

-- the line that was pushed into an empty buffer was the first
pub first_pushed : (old new : List (List ℕ)) (text : List ℕ) → PushesLine old new [] text (Ok tt) → 0 < length old → old ≡ text ∷ new
first_pushed [] new text h lt = absurd (omega arith)
first_pushed (line ∷ lines) new text h lt = rw (h.0, h.1) refl

pub one_taken : (taken old new all : List (List ℕ)) (text : List ℕ) → taken ++ old ≡ all → old ≡ text ∷ new → (taken ++ text ∷ []) ++ new ≡ all
one_taken taken old new all text h is = append_assoc taken (text ∷ []) new ∙ ap (λ xs. taken ++ xs) (sym is) ∙ h

pub all_taken : (taken left all : List (List ℕ)) → taken ++ left ≡ all → length left ≡ 0 → taken ≡ all
all_taken taken [] all h none = sym (append-nil taken) ∙ h
all_taken taken (line ∷ left) all h none = absurd (omega arith)
