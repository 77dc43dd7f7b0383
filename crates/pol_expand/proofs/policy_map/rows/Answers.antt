use Rattle.std.proofs.Common.{List, length, ap, ◌∙◌, arith}
use Rattle.std.proofs.lemmas.List.FromFn.{length-map-range_with_len}
use Rattle.pol_bitmap.specs.declared.Node.{Node}
use Rattle.pol_expand.specs.PolicyMap.{row_in}
use Rattle.pol_expand.proofs.PolicyMaps.{row_added}
use Rattle.pol_expand.proofs.policy_map.rows.Goals as goal

pub loop-i-preserved : goal.loop-i-preserved
loop-i-preserved c =
    row_added c.args.policy.now c.loop-i.i c.loop-i.rows.items c.push.new.self.items c.row.result c.loop-i.invariant c.row.ensures c.in_ok-push.ensures.items

pub returns-clause-few : goal.returns-clause-few
returns-clause-few c =
    let count = ap (length {A = List Node}) c.loop-i.invariant ∙ length-map-range_with_len (row_in c.args.policy.now) 1 c.loop-i.i in
    omega (arith, count, c.loop-i.auto.i-end, c.type_count-i-end.ensures.few)
