use Rattle.std.proofs.Common.{◌≡◌}
use Rattle.std.specs.List.{flat_map, range_with_len}
use Rattle.se_checker.specs.Inner.AllowRules.{rules_in}
use Rattle.se_checker.specs.Inner.AskedBits.{asks_at, numbers_passing}
use Rattle.se_checker.proofs.assertions.passing_rules.Given as goal

abbrev pub invariant-loop-place : goal.invariant-loop-place
invariant-loop-place l = l.found.items ≡ flat_map (λ place. numbers_passing (asks_at l.policy.symbols l.asked place) l.sources.values l.targets.values (rules_in l.rules place)) (range_with_len 0 l.place)
