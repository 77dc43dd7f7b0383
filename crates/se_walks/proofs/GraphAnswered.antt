-- The answer about a graph: of words that name types, and in two parts.
use Rattle.std.proofs.Common.{◌≡◌, ◌+◌, ◌++◌, ℕ, Bool, Option, Some, None, subst, sym}
use Rattle.pol_file.specs.declared.Parts.{Parts}
use Rattle.se_outside.specs.Outside.{SinkState}
use Rattle.se_items.proofs.Resuming.{texts_then}
use Rattle.se_status.specs.declared.Status.{Status}
use Rattle.se_status.specs.Conclusion.{Concludes, done, text_unless}
use Rattle.se_status.proofs.Unless.{parts_then}
use Rattle.se_walks.specs.GraphAnswer.{GraphAsks, graph_answer, graph_items, graph_text, is_listed, unknown_in}
use Rattle.se_walks.specs.WalkTexts.{EdgeWords}

-- no word is unknown
pub graph_written : (words : EdgeWords) (edge : ℕ → ℕ → Bool) (asks : GraphAsks) (policy : Parts) (old new : SinkState) (status : Status) → unknown_in asks policy ≡ None
    → Concludes (done (graph_text words edge asks policy)) old new status → Concludes (graph_answer words edge asks policy) old new status
unfolding graph_answer
graph_written words edge asks policy old new status none concludes =
    let Q : Option ℕ → Type 0 = λ word. Concludes (text_unless word (graph_text words edge asks policy)) old new status in
    subst Q (sym none) concludes

-- Some items, and then those after them.
pub graph_then : (words : EdgeWords) (edge : ℕ → ℕ → Bool) (asks : GraphAsks) (policy : Parts) (count : ℕ)
    → (graph_answer words edge (record asks { limit = Some count }) policy).text ++ (graph_answer words edge (record asks { from = asks.from + count; limit = None }) policy).text
    ≡ (graph_answer words edge (record asks { limit = None }) policy).text
unfolding graph_answer graph_text is_listed
graph_then words edge asks policy count = parts_then (unknown_in asks policy) _ _ _ (texts_then asks.from count (graph_items words edge asks policy))
