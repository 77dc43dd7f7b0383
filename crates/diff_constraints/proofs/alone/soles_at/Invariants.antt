use Rattle.std.proofs.Common.{◌≡◌, take}
use Rattle.std.specs.List.{filter_map}
use Rattle.diff_constraints.specs.Inner.SolePlaces.{sole_at}
use Rattle.diff_constraints.proofs.alone.soles_at.Given as goal

abbrev pub invariant-loop-at : goal.invariant-loop-at
invariant-loop-at l = l.soles.items ≡ filter_map (sole_at l.first l.second) (take l.at-index l.places)
