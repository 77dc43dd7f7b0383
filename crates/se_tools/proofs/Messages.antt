-- A message that was written, or not.
use Rattle.std.proofs.Common.{[], ℕ, List, Result, Ok, Err, append-nil, sym}
use Rattle.se_outside.specs.Outside.{SinkState}
use Rattle.se_items.specs.Writing.{Said, Wrote}

pub said-of : {T E : Type 0} (old new : SinkState) (text : List ℕ) (r : Result T E) → Wrote old new text r → Said old new text
said-of old new text (Ok u) wrote = record { later = wrote.later; part = (text, [], sym (append-nil text), wrote.whole); whole = λ none. wrote.whole }
said-of old new text (Err e) wrote = record { later = wrote.later; part = wrote.part; whole = λ none. absurd (none wrote.failed) }
