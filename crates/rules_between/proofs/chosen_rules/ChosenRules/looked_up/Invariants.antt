use Rattle.std.proofs.Common.{◌≡◌, ◌++◌}
use Rattle.std.specs.List.{filter}
use Rattle.pol_bitmap.specs.Nodes.{bits_of}
use Rattle.pol_expand.specs.JoinedTypes.{any_joins}
use Rattle.rules_between.proofs.chosen_rules.ChosenRules.looked_up.Given as goal

-- the types that were found and those that are left
abbrev pub invariant-loop-target : goal.invariant-loop-target
invariant-loop-target l =
    l.found.items ++ filter (any_joins l.self.policy l.self.rules l.source) l.target-iterator ≡ filter (any_joins l.self.policy l.self.rules l.source) (bits_of l.among)
