-- Some transitions or walks, and then those after them.
use Rattle.std.proofs.Common.{◌≡◌, ◌+◌, ◌++◌, ℕ, Some, None}
use Rattle.pol_file.specs.declared.Parts.{Parts}
use Rattle.dom_trans.specs.Transitions.{is_transition}
use Rattle.se_walks.proofs.GraphAnswered.{graph_then}
use Rattle.se_options.specs.DomRequest.{DomAsks}
use Rattle.se_dom.specs.DomAnswer.{dom_answer, dom_graph, dom_rules}
use Rattle.se_dom.specs.DomTexts.{dom_words}

pub answer_then : (asks : DomAsks) (policy : Parts) (count : ℕ)
    → (dom_answer (record asks { limit = Some count }) policy).text ++ (dom_answer (record asks { from = asks.from + count; limit = None }) policy).text ≡ (dom_answer (record asks { limit = None }) policy).text
unfolding dom_answer
answer_then asks policy count = graph_then (dom_words (dom_rules asks policy)) (is_transition (dom_rules asks policy)) (dom_graph asks) policy count
