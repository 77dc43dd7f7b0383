use Rattle.std.proofs.Common.{◌≡◌, ◌+◌, [], take}
use Rattle.pol_bitmap.specs.Nodes.{bits_of}
use Rattle.rules_between.specs.Inner.RuleTables.{shares_at}
use Rattle.value_groups.proofs.Adding.{AddedFront}
use Rattle.rules_between.proofs.chosen_rules.ChosenRules.sources_by_ends.Given as goal

abbrev pub invariant-loop-end : goal.invariant-loop-end
invariant-loop-end l =
    (l.found.count ≡ l.self.policy.symbols.types.nprim + 1)
    × AddedFront (λ source end. shares_at l.self.policy l.self.rules l.others.rules (bits_of l.targets) end source) (take l.end-index l.ends) [] l.found.values
