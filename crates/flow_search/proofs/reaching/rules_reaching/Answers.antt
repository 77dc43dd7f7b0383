use Rattle.std.proofs.Common.{◌≡◌, Some, slice_get, subst}
use Rattle.pol_file.specs.declared.Parts.{Parts}
use Rattle.pol_read.specs.StoredRules.{stored, stored_rules}
use Rattle.perm_map.specs.PermissionMap.{weights_of}
use Rattle.flow_search.specs.FlowWeights.{inwards, outwards}
use Rattle.flow_search.proofs.Weighing.{by_test, reached_more}
use Rattle.flow_search.proofs.reaching.rules_reaching.Goals as goal

pub loop-number-preserved : goal.loop-number-preserved
loop-number-preserved c =
    let weigher = c.args.weigher.now in
    let number = c.loop-number.number in
    let rule = stored c.rule-rule.result in
    let at : slice_get (stored_rules weigher.rules.policy) number ≡ Some rule = subst (λ (policy : Parts). slice_get (stored_rules policy) number ≡ Some rule) c.policy-policy.ensures c.rule-rule.ensures.is in
    let out = by_test outwards c.in_ok-test.test weigher.rules weigher.entries c.args.least rule c.ways-ways.result.out c.in_ok-test.ensures c.ways-ways.ensures.out in
    let into = by_test inwards c.in_ok-test.test weigher.rules weigher.entries c.args.least rule c.ways-ways.result.into c.in_ok-test.ensures c.ways-ways.ensures.into in (
      reached_more outwards (weights_of weigher.entries) weigher.rules c.args.least number rule c.ways-ways.result.out _ _ at c.loop-number.invariant.0 out c.in_ok-push_where.ensures,
      reached_more inwards (weights_of weigher.entries) weigher.rules c.args.least number rule c.ways-ways.result.into _ _ at c.loop-number.invariant.1 into c.in_ok-push_where-2.ensures,
    )
