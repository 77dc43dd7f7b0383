use Rattle.std.proofs.Common.{◌≡◌, take}
use Rattle.flow_search.specs.Inner.WeightTables.{greatest_into, greatest_out}
use Rattle.flow_search.proofs.class_weights.greatest_of.Given as goal

abbrev pub invariant-loop-permission : goal.invariant-loop-permission
invariant-loop-permission l =
    (l.out ≡ greatest_out l.mask (take l.permission-index l.permissions)) × (l.into ≡ greatest_into l.mask (take l.permission-index l.permissions))
