use Rattle.std.proofs.Common.{◌≡◌, ◌++◌}
use Rattle.std.specs.List.{filter}
use Rattle.pol_bitmap.specs.Nodes.{bits_of}
use Rattle.pol_expand.specs.JoinedTypes.{any_joins}
use Rattle.dom_trans.specs.Inner.RuleLists.{rules_of}
use Rattle.dom_trans.proofs.dom_rules.DomRules.having.Given as goal

-- the types that were found and those that are left
abbrev pub invariant-loop-a : goal.invariant-loop-a
invariant-loop-a l =
    l.found.items ++ filter (λ a. any_joins l.self.policy (rules_of l.self l.grant) a a) l.a-iterator ≡ filter (λ a. any_joins l.self.policy (rules_of l.self l.grant) a a) (bits_of l.types)
