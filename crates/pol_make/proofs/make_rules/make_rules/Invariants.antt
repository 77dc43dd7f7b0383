use Rattle.std.proofs.Common.{◌≡◌}
use Rattle.std.specs.List.{range_with_len, flat_map}
use Rattle.pol_make.specs.MadeRules.{rules_of}
use Rattle.pol_make.proofs.make_rules.make_rules.Given as goal

abbrev pub invariant-loop-i : goal.invariant-loop-i
invariant-loop-i l = l.rules.items ≡ flat_map (rules_of l.n) (range_with_len 0 l.i)
