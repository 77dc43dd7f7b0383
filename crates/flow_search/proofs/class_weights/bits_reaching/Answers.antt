use Rattle.flow_search.proofs.Weighing.{more_reach, no_reach}
use Rattle.flow_search.proofs.class_weights.bits_reaching.Goals as goal

pub loop-permission-init : goal.loop-permission-init
loop-permission-init c = no_reach c.args.least c.requires

pub loop-permission-preserved : goal.loop-permission-preserved
loop-permission-preserved c =
    more_reach c.args.least c.args.permissions.now c.loop-permission.permission-index _ (record { out = c.loop-permission.out; into = c.loop-permission.into }) (record { out = c.with_bit-out.result; into = c.with_bit-into.result })
    c.loop-permission-test.true c.loop-permission.invariant c.with_bit-out.ensures c.with_bit-into.ensures
