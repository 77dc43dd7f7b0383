use Rattle.std.proofs.Common.{length, ap, sym, ◌∙◌, arith}
use Rattle.pol_cursor.specs.References.{Placed}
use Rattle.pol_conditionals.specs.declared.CondNodeRec.{CondNodeRec}
use Rattle.counted_rules.proofs.EnabledRules.{values_end, values_next, values_none}
use Rattle.counted_rules.proofs.node_values.values_in.Goals as goal

pub loop-node-init : goal.loop-node-init
loop-node-init c = c.in_ok-values.ensures.items ∙ sym (values_none c.args.state.now)

pub loop-node-preserved : goal.loop-node-preserved
loop-node-preserved c =
    c.in_ok-push.ensures.items
    ∙ values_next c.args.state.now c.args.policy.now.rules.conditionals c.loop-node.node c.condition.result c.value.result c.loop-node.values.items c.condition.ensures c.value.ensures.same c.loop-node.invariant

pub returns : goal.returns
returns c = values_end c.args.state.now c.args.policy.now.rules.conditionals c.loop-node.node c.loop-node.values.items (omega (arith, c.loop-node-test.false, c.len-count.ensures, ap (length {A = Placed CondNodeRec}) c.conditionals.ensures)) c.loop-node.invariant
