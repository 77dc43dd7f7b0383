use Rattle.std.proofs.Common.{◌≡◌}
use Rattle.std.specs.List.{filter, range_with_len}
use Rattle.pol_expand.specs.PolicyMap.{has_flavour}
use Rattle.pol_expand.proofs.policy_map.flavoured_values.Given as goal

abbrev pub invariant-loop-i : goal.invariant-loop-i
invariant-loop-i l = l.values.items ≡ filter (has_flavour l.symbols l.flavour) (range_with_len 1 l.i)
