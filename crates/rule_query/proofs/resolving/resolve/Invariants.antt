use Rattle.std.proofs.Common.{map, take}
use Rattle.rule_query.specs.GivenCriteria.{shown}
use Rattle.rule_query.specs.Inner.LookedUp.{IsMapIfMade}
use Rattle.rule_query.proofs.Resolvings.{LookedUp}
use Rattle.rule_query.proofs.resolving.resolve.Given as goal

-- the words that were looked up, and the map of types
pub record SoFar (words types : Type 0) : Type 0 where
  pub are_looked_up : words
  pub map : types

abbrev pub invariant-loop-given : goal.invariant-loop-given
invariant-loop-given g l =
    SoFar (LookedUp l.policy l.criteria (g.P.Patterns.state l.fn.patterns).asked (g.P.Patterns.state l.patterns).asked (g.P.Patterns.state l.fn.patterns).refusals (g.P.Patterns.state l.patterns).refusals (map shown (take l.given-index l.given-items)) l.tests.items)
    (IsMapIfMade l.policy l.types)
