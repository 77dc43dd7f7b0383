use Rattle.std.proofs.Common.{◌≡◌, map}
use Rattle.std.specs.List.{range_with_len}
use Rattle.pol_expand.specs.PolicyMap.{row_in}
use Rattle.pol_expand.proofs.policy_map.rows.Given as goal

abbrev pub invariant-loop-i : goal.invariant-loop-i
invariant-loop-i l = l.rows.items ≡ map (row_in l.policy) (range_with_len 1 l.i)
