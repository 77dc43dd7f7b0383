use Rattle.std.proofs.Common.{take}
use Rattle.flow_search.specs.Inner.WeightTables.{AreReachBits}
use Rattle.flow_search.proofs.class_weights.bits_reaching.Given as goal

abbrev pub invariant-loop-permission : goal.invariant-loop-permission
invariant-loop-permission l = AreReachBits l.least (take l.permission-index l.permissions) (record { out = l.out; into = l.into })
