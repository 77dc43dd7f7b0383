-- The successors of a node.
use Rattle.std.proofs.Common.{◌≡◌, ◌⊎◌, inl, inr, ◌↔◌, ℕ, ◌+◌, ◌<◌, ◌≤◌, List, [], ◌∷◌, Bool, true, false, ◌&&◌, ◌||◌, cond, not, eqb, refl, sym, ap, ◌∙◌, subst, arith}
use Rattle.std.specs.Prelude.{IsTrue}
use Rattle.std.specs.List.{Contains, filter, range_with_len}
use Rattle.std.proofs.lemmas.Bool.{and_from, and_parts, or_cases, or_left, or_right, eq-eqb, eqb-true, false≢true}
use Rattle.pol_bitmap.specs.declared.Node.{Node}
use Rattle.pol_bitmap.specs.Nodes.{bits_of, has_bit}
use Rattle.pol_bitmap.specs.Sets.{IsCommon, IsDifference, IsUnion}
use Rattle.pol_file.specs.declared.Parts.{Parts}
use Rattle.counted_rules.specs.CountedRules.{Counted}
use Rattle.pol_expand.proofs.Values.{same_tests}
use Rattle.walk_enum.specs.Walks.{AreSuccessors}
use Rattle.walk_enum.proofs.Elements.{from_filter, in_cases, in_filter, in_first, in_range, not_in_nothing, passes_filter, range_high}
use Rattle.rules_by_end.specs.declared.RuleEnd.{RuleEnd}
use Rattle.pol_expand.specs.JoinedTypes.{any_joins, sources_to, targets_from}
use Rattle.rules_by_end.specs.RulesByEnd.{HoldRules, RulesByEnd, other_end, others_of}
use Rattle.pol_expand.specs.PlainTypes.{are_two_types, is_type_value, types_outside}
use Rattle.pol_expand.proofs.TypesOutside.{in_outside, type_within}
use Rattle.perm_map.specs.PermissionMap.{Weights, weights_of}
use Rattle.flow_search.specs.FlowWeights.{inwards, outwards}
use Rattle.flow_search.specs.FlowEdges.{FlowSearch, flow_edge, is_flow}
use Rattle.flow_search.specs.Inner.FlowParts.{AreFlowRules, AreJoined, IsOpenPart, any_edge, any_flow, first_end, is_open, is_successor, rules_reaching}
use Rattle.flow_search.proofs.ReachedWeights.{flow_reaches}
use Rattle.flow_search.proofs.TestOrders.{ahead_tests, back_tests}

-- ---- joined types

-- type values that pass a test
in_types : (n : ℕ) (test : ℕ → Bool) (value : ℕ) → Contains (filter test (range_with_len 1 n)) value ↔ ((1 ≤ value) × (value ≤ n) × (test value ≡ true))
in_types n test value = (
  λ h. (let range = range_high 1 n value (from_filter test (range_with_len 1 n) value h) in (range.0, below n value range.1, passes_filter test (range_with_len 1 n) value h)),
  λ h. in_filter test (range_with_len 1 n) value h.2 (in_range n value h.0 h.1),
)
  where
    below : (n value : ℕ) → value < 1 + n → value ≤ n
    below n value h = omega arith

either_test : (n : ℕ) (p q : ℕ → Bool) (found : List ℕ) (value : ℕ) → Contains found value ↔ (Contains (filter p (range_with_len 1 n)) value ⊎ Contains (filter q (range_with_len 1 n)) value) → Contains found value ↔ ((1 ≤ value) × (value ≤ n) × ((p value || q value) ≡ true))
either_test n p q found value is = (
  λ h. to (is.0 h),
  λ h. is.1 (back h.0 h.1 (or_cases (p value) (q value) h.2)),
)
  where
    to : Contains (filter p (range_with_len 1 n)) value ⊎ Contains (filter q (range_with_len 1 n)) value → (1 ≤ value) × (value ≤ n) × ((p value || q value) ≡ true)
    to (inl h) = let parts = (in_types n p value).0 h in (parts.0, parts.1, or_left (p value) (q value) parts.2)
    to (inr h) = let parts = (in_types n q value).0 h in (parts.0, parts.1, or_right (p value) (q value) parts.2)

    back : 1 ≤ value → value ≤ n → (p value ≡ true) ⊎ (q value ≡ true) → Contains (filter p (range_with_len 1 n)) value ⊎ Contains (filter q (range_with_len 1 n)) value
    back low high (inl h) = inl ((in_types n p value).1 (low, high, h))
    back low high (inr h) = inr ((in_types n q value).1 (low, high, h))

joins_from : (weights : Weights) (rules : Counted) (least node : ℕ) (out into found : List ℕ) → out ≡ targets_from rules.policy (rules_reaching outwards weights rules least) node → into ≡ sources_to rules.policy (rules_reaching inwards weights rules least) node → IsUnion out into found → AreJoined rules.policy (λ other. any_flow weights rules least node other) found
unfolding any_flow targets_from sources_to
joins_from weights rules least node out into found out_is into_is union = record {
  each = λ value. either_test rules.policy.symbols.types.nprim (any_joins rules.policy (rules_reaching outwards weights rules least) node) (λ source. any_joins rules.policy (rules_reaching inwards weights rules least) source node) found value
      (subst (λ (xs : List ℕ). Contains found value ↔ (Contains xs value ⊎ Contains (sources_to rules.policy (rules_reaching inwards weights rules least) node) value)) out_is
      (subst (λ (ys : List ℕ). Contains found value ↔ (Contains out value ⊎ Contains ys value)) into_is (union.each value)));
}

joins_to : (weights : Weights) (rules : Counted) (least node : ℕ) (out into found : List ℕ) → out ≡ sources_to rules.policy (rules_reaching outwards weights rules least) node → into ≡ targets_from rules.policy (rules_reaching inwards weights rules least) node → IsUnion out into found → AreJoined rules.policy (λ other. any_flow weights rules least other node) found
unfolding any_flow targets_from sources_to
joins_to weights rules least node out into found out_is into_is union = record {
  each = λ value. either_test rules.policy.symbols.types.nprim (λ source. any_joins rules.policy (rules_reaching outwards weights rules least) source node) (any_joins rules.policy (rules_reaching inwards weights rules least) node) found value
      (subst (λ (xs : List ℕ). Contains found value ↔ (Contains xs value ⊎ Contains (targets_from rules.policy (rules_reaching inwards weights rules least) node) value)) out_is
      (subst (λ (ys : List ℕ). Contains found value ↔ (Contains out value ⊎ Contains ys value)) into_is (union.each value)));
}

-- ---- edges

same_either_way : (a b : ℕ) → eqb a b ≡ eqb b a
same_either_way a b = same_tests (eqb a b) (eqb b a) (λ h. eq-eqb b a (sym (eqb-true a b h))) (λ h. eq-eqb a b (sym (eqb-true b a h)))

ahead_is : (search : FlowSearch) (node other : ℕ) → 1 ≤ search.least → is_flow search node other ≡ (is_open search node && (is_successor search node other && any_flow (weights_of search.entries) search.rules search.least node other))
unfolding is_flow
ahead_is search node other some =
    let policy = search.rules.policy in
    let flow = any_flow (weights_of search.entries) search.rules search.least node other in
    let tn = is_type_value policy node in
    let to = is_type_value policy other in
    let xn = has_bit search.excluded node in
    let xo = has_bit search.excluded other in
    ap (λ (reached : Bool). are_two_types policy node other && reached && not xn && not xo) (flow_reaches (weights_of search.entries) search.rules search.least node other some)
    ∙ ahead_tests tn to (eqb node other) xn xo flow
    ∙ ap (λ (same : Bool). (tn && not xn) && ((not same && (to && not xo)) && flow)) (same_either_way node other)

back_is : (search : FlowSearch) (node other : ℕ) → 1 ≤ search.least → is_flow search other node ≡ (is_open search node && (is_successor search node other && any_flow (weights_of search.entries) search.rules search.least other node))
unfolding is_flow
back_is search node other some =
    let policy = search.rules.policy in
    let flow = any_flow (weights_of search.entries) search.rules search.least other node in
    let tn = is_type_value policy node in
    let to = is_type_value policy other in
    let xn = has_bit search.excluded node in
    let xo = has_bit search.excluded other in
    ap (λ (reached : Bool). are_two_types policy other node && reached && not xo && not xn) (flow_reaches (weights_of search.entries) search.rules search.least other node some)
    ∙ back_tests tn to (eqb other node) xn xo flow

turned_parts : (reverse : Bool) (x y o s a b : Bool) → x ≡ (o && (s && a)) → y ≡ (o && (s && b)) → cond reverse x y ≡ (o && (s && cond reverse a b))
turned_parts true x y o s a b h k = h
turned_parts false x y o s a b h k = k

-- an edge from a node is one to a successor that some rule joins
pub edge_is : (search : FlowSearch) (node other : ℕ) → 1 ≤ search.least → flow_edge search node other ≡ (is_open search node && (is_successor search node other && any_edge search node other))
unfolding any_edge
edge_is search node other some =
    turned_parts search.reverse (is_flow search other node) (is_flow search node other) (is_open search node) (is_successor search node other)
    (any_flow (weights_of search.entries) search.rules search.least other node) (any_flow (weights_of search.entries) search.rules search.least node other)
    (back_is search node other some) (ahead_is search node other some)

-- ---- types that may be an end

not_there : (b : Bool) → (b ≡ true → ⊥) → not b ≡ true
not_there true h = absurd (h refl)
not_there false h = refl

there_not : (b : Bool) → not b ≡ true → b ≡ true → ⊥
there_not true h k = false≢true h
there_not false h k = false≢true k

-- what the set of the types that may be an end answers
pub has_open : (search : FlowSearch) (open_types : List Node) (node : ℕ) (has : Bool) → bits_of open_types ≡ types_outside search.rules.policy search.excluded → IsTrue has ↔ Contains (bits_of open_types) node → has ≡ is_open search node
has_open search open_types node has are is =
    let among = in_outside search.rules.policy search.excluded open_types node are in
    same_tests has (is_open search node) (λ h. among.0 (is.0 h)) (λ h. is.1 (among.1 h))

-- what some types have in common with them
pub open_part : (search : FlowSearch) (open_types : List Node) (types part : List ℕ) → bits_of open_types ≡ types_outside search.rules.policy search.excluded → IsCommon types (bits_of open_types) part → IsOpenPart search types part
open_part search open_types types part are common = record {
  each = λ value. (
    λ h. (let parts = (common.each value).0 h in (parts.0, (in_outside search.rules.policy search.excluded open_types value are).0 parts.1)),
    λ h. (common.each value).1 (h.0, (in_outside search.rules.policy search.excluded open_types value are).1 h.1),
  );
}

-- ---- ends of edges

other_apart : (node other : ℕ) → (Contains (node ∷ []) other → ⊥) → not (eqb other node) ≡ true
other_apart node other h = not_there (eqb other node) (λ e. h (subst (Contains (node ∷ [])) (sym (eqb-true other node e)) (in_first node [])))

apart_other : (node other : ℕ) → not (eqb other node) ≡ true → Contains (node ∷ []) other → ⊥
apart_other node other h there = elim (in_cases node [] other there) [
  | inl same ↦ there_not (eqb other node) h (eq-eqb other node (sym same))
  | inr none ↦ not_in_nothing other none
]

-- the joined types that may be an end are the ends of the edges, but for the node itself
pub ends_are : (search : FlowSearch) (node : ℕ) (joined part found : List ℕ) → 1 ≤ search.least → is_open search node ≡ true → AreJoined search.rules.policy (any_edge search node) joined → IsOpenPart search joined part → IsDifference part (node ∷ []) found → AreSuccessors (flow_edge search) node found
ends_are search node joined part found some may are open_joined difference = record { each = each }
  where
    each : (other : ℕ) → Contains found other ↔ (flow_edge search node other ≡ true)
    each other = (
      λ h. (let left = (difference.each other).0 h in
          let opens = (open_joined.each other).0 left.0 in
          let joins = (are.each other).0 opens.0 in
          let passes = and_from (not (eqb other node)) (is_open search other) (other_apart node other left.1) opens.1 in
          edge_is search node other some ∙ and_from (is_open search node) (is_successor search node other && any_edge search node other) may (and_from (is_successor search node other) (any_edge search node other) passes joins.2)),
      λ h. (let parts = and_parts (is_open search node) (is_successor search node other && any_edge search node other) (sym (edge_is search node other some) ∙ h) in
          let both = and_parts (is_successor search node other) (any_edge search node other) parts.1 in
          let apart = and_parts (not (eqb other node)) (is_open search other) both.0 in
          let type = and_parts (is_type_value search.rules.policy other) (not (has_bit search.excluded other)) apart.1 in
          let range = type_within search.rules.policy other type.0 in
          (difference.each other).1 ((open_joined.each other).1 ((are.each other).1 (range.0, range.1, both.1), apart.1), apart_other node other apart.0)),
    )

-- a node that may be no end has no edges
pub no_ends : (search : FlowSearch) (node : ℕ) (found : List ℕ) → 1 ≤ search.least → is_open search node ≡ false → found ≡ [] → AreSuccessors (flow_edge search) node found
no_ends search node found some shut is = subst (AreSuccessors (flow_edge search) node) (sym is) (record { each = each })
  where
    each : (other : ℕ) → Contains [] other ↔ (flow_edge search node other ≡ true)
    each other = (
      λ h. not_in_nothing other h,
      λ h. (let parts = and_parts (is_open search node) (is_successor search node other && any_edge search node other) (sym (edge_is search node other some) ∙ h) in
          absurd (false≢true (sym shut ∙ parts.0))),
    )

-- ---- by what a graph keeps

edge_back : (search : FlowSearch) (node : ℕ) → search.reverse ≡ true → any_edge search node ≡ (λ other. any_flow (weights_of search.entries) search.rules search.least other node)
unfolding any_edge
edge_back search node e =
    ap {B = ℕ → Bool} (λ (turned_parts : Bool) (other : ℕ). cond turned_parts (any_flow (weights_of search.entries) search.rules search.least other node) (any_flow (weights_of search.entries) search.rules search.least node other)) e

edge_ahead : (search : FlowSearch) (node : ℕ) → search.reverse ≡ false → any_edge search node ≡ (λ other. any_flow (weights_of search.entries) search.rules search.least node other)
unfolding any_edge
edge_ahead search node e =
    ap {B = ℕ → Bool} (λ (turned_parts : Bool) (other : ℕ). cond turned_parts (any_flow (weights_of search.entries) search.rules search.least other node) (any_flow (weights_of search.entries) search.rules search.least node other)) e

pub rules_join : (search : FlowSearch) (node : ℕ) (out into : RulesByEnd) → AreFlowRules (weights_of search.entries) search.rules search.least search.reverse out into → (some others found : List ℕ)
    → ((rules : List ℕ) → HoldRules out rules → some ≡ others_of out.near out.policy rules node) → ((rules : List ℕ) → HoldRules into rules → others ≡ others_of into.near into.policy rules node) → IsUnion some others found → AreJoined search.rules.policy (any_edge search node) found
rules_join search node out into are some others found some_are others_are union =
    by search.reverse refl
    (some_are outs are.out_rules ∙ ap (λ (end : RuleEnd). others_of end out.policy outs node) are.out_near ∙ ap (λ (p : Parts). others_of (first_end search.reverse) p outs node) are.out_policy)
    (others_are intos are.into_rules ∙ ap (λ (end : RuleEnd). others_of end into.policy intos node) are.into_near ∙ ap (λ (p : Parts). others_of (other_end (first_end search.reverse)) p intos node) are.into_policy)
  where
    weights : Weights
    weights = weights_of search.entries

    outs : List ℕ
    outs = rules_reaching outwards weights search.rules search.least

    intos : List ℕ
    intos = rules_reaching inwards weights search.rules search.least

    by : (reverse : Bool) → search.reverse ≡ reverse → some ≡ others_of (first_end reverse) search.rules.policy outs node → others ≡ others_of (other_end (first_end reverse)) search.rules.policy intos node → AreJoined search.rules.policy (any_edge search node) found
    by true e s o = subst (λ (test : ℕ → Bool). AreJoined search.rules.policy test found) (sym (edge_back search node e)) (joins_to weights search.rules search.least node some others found s o union)
    by false e s o = subst (λ (test : ℕ → Bool). AreJoined search.rules.policy test found) (sym (edge_ahead search node e)) (joins_from weights search.rules search.least node some others found s o union)
