use Rattle.std.proofs.Common.{List, subst}
use Rattle.perm_map.specs.PermissionMap.{weights_of}
use Rattle.flow_search.specs.declared.class_weights.PermissionWeight.{PermissionWeight}
use Rattle.flow_search.specs.Inner.WeightTables.{AreBitsOf, HaveReachBits}
use Rattle.flow_search.proofs.Results.{if_ok}
use Rattle.flow_search.proofs.Weighing.{have_bits}
use Rattle.flow_search.proofs.weigher.Weigher.reaching.Goals as goal

pub returns : goal.returns
returns c = rw (← c.self.view_is) (
    if_ok (λ classes. AreBitsOf c.args.least c.deref.result.now classes.items) (λ classes. HaveReachBits (weights_of c.self.inside.map.now) c.self.inside.rules.policy.symbols c.args.least classes.items) c.bits_of_classes.result
    (λ classes bits. have_bits (weights_of c.self.inside.map.now) c.self.inside.rules.policy.symbols c.args.least c.self.inside.classes.items classes.items c.requires c.self.invariant
    (subst (λ (lists : List (List PermissionWeight)). AreBitsOf c.args.least lists classes.items) c.deref.ensures.value bits))
    c.bits_of_classes.ensures)
