use Rattle.std.proofs.Common.{◌<◌, ◌≤◌, ◌≡◌, ◌∙◌, ◌^◌, ℕ, true, length, ap, subst, sym, arith}
use Rattle.std.specs.List.{All}
use Rattle.pol_file.specs.declared.Parts.{Parts}
use Rattle.pol_read.specs.StoredRules.{stored_rules}
use Rattle.pol_expand.specs.JoinedTypes.{is_between_types}
use Rattle.perm_map.specs.PermissionMap.{weights_of}
use Rattle.flow_search.specs.FlowWeights.{inwards, outwards}
use Rattle.flow_search.specs.Inner.WeightTables.{Weighing}
use Rattle.flow_search.proofs.ReachedWeights.{reaching_between, reaching_few}
use Rattle.flow_search.proofs.flow_graph.FlowGraph.new_under.Goals as goal

fits : (found all : ℕ) → found ≤ all → all ≤ 400000000 → found < 2 ^ 32
fits found all h k = omega arith

pub build-requires-clause-rules : goal.build-requires-clause-rules
build-requires-clause-rules c =
    let weigher = c.in_ok-weigher.weigher in
    let found = c.in_ok-out.field-0.out.items in
    let policy = ap (λ (w : Weighing). w.rules.policy) c.in_ok-weigher.ensures ∙ sym c.policy-policy.ensures in
    subst (λ (policy : Parts). All (λ number. is_between_types policy number ≡ true) found) policy
    (reaching_between outwards (weights_of weigher.entries) weigher.rules c.args.least found c.requires.weight c.in_ok-out.ensures.out)

pub build-requires-clause-few : goal.build-requires-clause-few
build-requires-clause-few c =
    let weigher = c.in_ok-weigher.weigher in
    let found = c.in_ok-out.field-0.out.items in
    fits (length found) (length (stored_rules weigher.rules.policy)) (reaching_few outwards (weights_of weigher.entries) weigher.rules c.args.least found c.in_ok-out.ensures.out) c.in_ok-out.ensures.few

pub build-requires-2-clause-rules : goal.build-requires-2-clause-rules
build-requires-2-clause-rules c =
    let weigher = c.in_ok-weigher.weigher in
    let found = c.in_ok-out.field-0.into.items in
    let policy = ap (λ (w : Weighing). w.rules.policy) c.in_ok-weigher.ensures ∙ sym c.policy-policy.ensures in
    subst (λ (policy : Parts). All (λ number. is_between_types policy number ≡ true) found) policy
    (reaching_between inwards (weights_of weigher.entries) weigher.rules c.args.least found c.requires.weight c.in_ok-out.ensures.into)

pub build-requires-2-clause-few : goal.build-requires-2-clause-few
build-requires-2-clause-few c =
    let weigher = c.in_ok-weigher.weigher in
    let found = c.in_ok-out.field-0.into.items in
    fits (length found) (length (stored_rules weigher.rules.policy)) (reaching_few inwards (weights_of weigher.entries) weigher.rules c.args.least found c.in_ok-out.ensures.into) c.in_ok-out.ensures.few
