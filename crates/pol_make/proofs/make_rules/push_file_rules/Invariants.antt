use Rattle.std.proofs.Common.{◌≡◌, ◌-◌, ◌++◌, map}
use Rattle.std.specs.List.{range_with_len}
use Rattle.pol_make.specs.MadeRules.{file_rule}
use Rattle.pol_make.proofs.make_rules.push_file_rules.Given as goal

abbrev pub invariant-loop-places : goal.invariant-loop-places
invariant-loop-places l = l.rules.items ≡ l.initial.rules.items ++ map (file_rule l.n l.i) (range_with_len 4 (l.places - 4))
