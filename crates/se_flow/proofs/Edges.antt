-- The edges of the graph are those that are listed.
use Rattle.std.proofs.Common.{◌≡◌, ◌∙◌, ◌≤◌, ℕ, Bool, true, false, List, refl, sym, ap}
use Rattle.std.proofs.lemmas.Bool.{lt-leb}
use Rattle.std.proofs.Math.Path.{fun_ext}
use Rattle.std.specs.Prelude.{◌&&◌, not, nat_le, if◌then◌else◌}
use Rattle.pol_bitmap.specs.declared.Node.{Node}
use Rattle.pol_bitmap.specs.Nodes.{has_bit}
use Rattle.counted_rules.specs.CountedRules.{Counted}
use Rattle.perm_map.specs.PermissionMap.{Entry, Weights, weights_of}
use Rattle.pol_expand.specs.PlainTypes.{are_two_types}
use Rattle.flow_search.specs.Flows.{flow_weight}
use Rattle.flow_search.specs.FlowEdges.{FlowSearch, flow_edge, is_flow}
use Rattle.se_options.specs.FlowRequest.{FlowAsks}
use Rattle.se_walks.specs.GraphAnswer.{excluded_in, is_edge, is_listed}
use Rattle.se_walks.specs.GraphItems.{items_between}
use Rattle.se_walks.specs.TypeNames.{is_excluded}
use Rattle.se_walks.specs.declared.Ends.{Ends}
use Rattle.se_walks.proofs.AskedTypes.{AreExcluded, either-way}
use Rattle.se_flow.specs.FlowAnswer.{flow_graph, is_flow_of}
use Rattle.se_flow.specs.FlowTexts.{flow_words}

by-two : (two : Bool) (least weight : ℕ) → 1 ≤ least → (two && nat_le least (if two then weight else 0)) ≡ nat_le least (if two then weight else 0)
by-two true least weight le = refl
by-two false least weight le = sym (lt-leb least 0 le)

-- a flow of some weight is one between two types
weighs : (weights : Weights) (rules : Counted) (least a b : ℕ) → 1 ≤ least → (are_two_types rules.policy a b && nat_le least (flow_weight weights rules a b)) ≡ nat_le least (flow_weight weights rules a b)
unfolding flow_weight
weighs weights rules least a b le = by-two (are_two_types rules.policy a b) least _ le

flow-is : (asks : FlowAsks) (rules : Counted) (entries : List Entry) (excluded : List Node) (reverse : Bool) (a b : ℕ) → 1 ≤ asks.least → AreExcluded rules.policy.symbols asks.excluded excluded
    → is_flow (record { rules = rules; entries = entries; least = asks.least; excluded = excluded; reverse = reverse }) a b ≡ is_listed (is_flow_of asks rules (weights_of entries)) (excluded_in (flow_graph asks) rules.policy) a b
unfolding is_flow is_listed
flow-is asks rules entries excluded reverse a b le same =
    rw (same a, same b)
    (ap (λ weighs. weighs && not (is_excluded rules.policy.symbols asks.excluded a) && not (is_excluded rules.policy.symbols asks.excluded b)) (weighs (weights_of entries) rules asks.least a b le))

edges-are : (asks : FlowAsks) (rules : Counted) (entries : List Entry) (excluded : List Node) → 1 ≤ asks.least → AreExcluded rules.policy.symbols asks.excluded excluded
    → flow_edge (record { rules = rules; entries = entries; least = asks.least; excluded = excluded; reverse = asks.reverse }) ≡ is_edge (is_flow_of asks rules (weights_of entries)) (excluded_in (flow_graph asks) rules.policy) asks.reverse
edges-are asks rules entries excluded le same =
    fun_ext (λ a. fun_ext (λ b. either-way asks.reverse _ _ _ _ (flow-is asks rules entries excluded asks.reverse b a le same) (flow-is asks rules entries excluded asks.reverse a b le same)))

-- what is listed of the graph is what is listed
pub items-are : (asks : FlowAsks) (rules : Counted) (entries : List Entry) (excluded : List Node) (graph : FlowSearch) (ends : Ends) → 1 ≤ asks.least → AreExcluded rules.policy.symbols asks.excluded excluded
    → graph ≡ record { rules = rules; entries = entries; least = asks.least; excluded = excluded; reverse = asks.reverse }
    → items_between (flow_words (weights_of graph.entries) graph.rules graph.least) (flow_edge graph) rules.policy (has_bit excluded) ends
    ≡ items_between (flow_words (weights_of entries) rules asks.least) (is_edge (is_flow_of asks rules (weights_of entries)) (excluded_in (flow_graph asks) rules.policy) asks.reverse) rules.policy (excluded_in (flow_graph asks) rules.policy) ends
items-are asks rules entries excluded graph ends le same is =
    let words = flow_words (weights_of entries) rules asks.least in
    let around : has_bit excluded ≡ excluded_in (flow_graph asks) rules.policy = fun_ext same in
    ap (λ (g : FlowSearch). items_between (flow_words (weights_of g.entries) g.rules g.least) (flow_edge g) rules.policy (has_bit excluded) ends) is
    ∙ ap (λ (edge : ℕ → ℕ → Bool). items_between words edge rules.policy (has_bit excluded) ends) (edges-are asks rules entries excluded le same)
    ∙ ap (λ (among : ℕ → Bool). items_between words (is_edge (is_flow_of asks rules (weights_of entries)) (excluded_in (flow_graph asks) rules.policy) asks.reverse) rules.policy among ends) around
