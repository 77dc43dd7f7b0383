use Rattle.std.proofs.Common.{◌*◌}
use Rattle.pol_expand.specs.Inner.Inverting.{AreListsBelow}
use Rattle.pol_expand.proofs.building.lists_of.Given as goal

abbrev pub invariant-loop-block : goal.invariant-loop-block
invariant-loop-block l = AreListsBelow l.rows l.types l.bits.items (l.block * 64) l.lists.items
