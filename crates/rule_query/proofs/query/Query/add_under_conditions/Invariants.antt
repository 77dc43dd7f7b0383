use Rattle.rule_query.specs.Inner.Gathering.{HasFound, StandFrom}
use Rattle.rule_query.proofs.MetRules.{rules_from_node}
use Rattle.rule_query.proofs.query.Query.add_under_conditions.Given as goal

-- the rules of the nodes that are left, and what was found before them
pub record Walked (left met : Type 0) : Type 0 where
  pub rules : left
  pub found : met

abbrev pub invariant-loop-node : goal.invariant-loop-node
invariant-loop-node l = Walked (StandFrom l.policy l.next (rules_from_node l.policy.rules.conditionals l.node)) (HasFound l.policy l.self l.next l.initial.found l.found)
