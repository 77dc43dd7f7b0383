use Rattle.std.proofs.Common.{◌≡◌, Some, slice_get, subst, arith}
use Rattle.pol_file.specs.declared.Parts.{Parts}
use Rattle.pol_read.specs.StoredRules.{stored, stored_rules}
use Rattle.perm_map.specs.PermissionMap.{weights_of}
use Rattle.flow_search.proofs.Weighing.{nothing_raised}
use Rattle.flow_search.proofs.weigher.Weigher.raised.Goals as goal

pub returns-then-weights-weight-2 : goal.returns-then-weights-weight-2
returns-then-weights-weight-2 c =
    let rule = stored c.rule-rule.result in
    nothing_raised (weights_of c.args.self.now.entries) c.args.self.now.rules.policy c.args.from c.args.to c.args.number c.args.weight rule
    (subst (λ (policy : Parts). slice_get (stored_rules policy) c.args.number ≡ Some rule) c.policy.ensures c.rule-rule.ensures.is)
    (omega (arith, c.weigh_rule-weights.ensures.out, c.if-weights-weight.true)) (omega (arith, c.weigh_rule-weights.ensures.into, c.if-weights-weight-2.true))
