use Rattle.std.specs.Prelude.{slice_index}
use Rattle.walk_enum.proofs.NumberedWalks.{IsAmong}
use Rattle.walk_enum.proofs.by_number.way_of.Given as goal

abbrev pub invariant-loop-node : goal.invariant-loop-node
invariant-loop-node l = IsAmong (slice_index l.counts) l.row l.before l.node-index l.left
