-- Some flows or walks, and then those after them.
use Rattle.std.proofs.Common.{◌≡◌, ◌+◌, ◌++◌, ℕ, List, Some, None, Result, Ok, Err, refl}
use Rattle.pol_file.specs.declared.Parts.{Parts}
use Rattle.perm_map.specs.declared.MapFault.{MapFault}
use Rattle.perm_map.specs.PermissionMap.{Entry, map_of, weights_of}
use Rattle.se_walks.proofs.GraphAnswered.{graph_then}
use Rattle.se_options.specs.FlowRequest.{FlowAsks}
use Rattle.se_flow.specs.FlowAnswer.{flow_answer, flow_graph, is_flow_of, mapped_answer, rules_of}
use Rattle.se_flow.specs.FlowTexts.{flow_words}

mapped-then : (asks : FlowAsks) (policy : Parts) (count : ℕ) (read : Result (List Entry) MapFault)
    → (mapped_answer (record asks { limit = Some count }) policy read).text ++ (mapped_answer (record asks { from = asks.from + count; limit = None }) policy read).text ≡ (mapped_answer (record asks { limit = None }) policy read).text
mapped-then asks policy count (Ok entries) = graph_then (flow_words (weights_of entries) (rules_of asks policy) asks.least) (is_flow_of asks (rules_of asks policy) (weights_of entries)) (flow_graph asks) policy count
mapped-then asks policy count (Err fault) = refl

pub answer_then : (asks : FlowAsks) (policy : Parts) (bytes : List ℕ) (count : ℕ)
    → (flow_answer (record asks { limit = Some count }) policy bytes).text ++ (flow_answer (record asks { from = asks.from + count; limit = None }) policy bytes).text ≡ (flow_answer (record asks { limit = None }) policy bytes).text
unfolding flow_answer
answer_then asks policy bytes count = mapped-then asks policy count (map_of bytes)
