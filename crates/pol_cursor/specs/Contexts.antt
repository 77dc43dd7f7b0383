-- Lists of records that are read under what the records before them made of a context.
use Rattle.std.specs.Prelude.{ℕ, List, [], ◌∷◌}
use Rattle.pol_cursor.specs.Outcome.{Reader}
use Rattle.pol_cursor.specs.Parts.{list_of}
use Rattle.pol_cursor.specs.References.{Placed, placed}

-- what so many records make of a context, one after the other
unfoldable pub context_after : {S A : Type 0} → (S → A → S) → S → List (Placed A) → S
context_after after context [] = context
context_after after context (r ∷ rs) = context_after after (after context r.value) rs

-- n records, each under the context that the ones before it made
unfoldable pub records_after : {S A : Type 0} → (S → Reader A) → (S → A → S) → ℕ → S → Reader (List (Placed A))
records_after record_at after n context = list_of (λ left context. placed (record_at context)) (λ context r. after context r.value) n context
