use Rattle.std.proofs.Common.{◌≡◌, take, map}
use Rattle.pol_conditionals.specs.Inner.PlaceGroups.{places_of}
use Rattle.pol_conditionals.specs.CondNodeRecord.{branch_rules}
use Rattle.pol_conditionals.proofs.conditionals.places_of_rules.Given as goal

abbrev pub invariant-loop-i : goal.invariant-loop-i
invariant-loop-i l = l.groups ≡ map (λ node. places_of (branch_rules node l.branch)) (take l.i l.nodes)
