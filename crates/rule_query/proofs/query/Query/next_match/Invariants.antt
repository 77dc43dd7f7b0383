use Rattle.std.proofs.Common.{◌≡◌, ◌-◌, length}
use Rattle.std.specs.List.{find, range_with_len}
use Rattle.pol_read.specs.StoredRules.{stored_rules}
use Rattle.rule_criteria.specs.declared.Criteria.{Criteria}
use Rattle.rule_query.specs.Meeting.{meets}
use Rattle.rule_query.specs.Queries.{IsQueryOf}
use Rattle.rule_query.proofs.query.Query.next_match.Given as goal

abbrev pub invariant-loop-n : goal.invariant-loop-n
invariant-loop-n l = (criteria : Criteria) → IsQueryOf l.policy criteria l.self → find (meets l.policy criteria) (range_with_len l.n (length (stored_rules l.policy) - l.n)) ≡ find (meets l.policy criteria) (range_with_len l.fn.from (length (stored_rules l.policy) - l.fn.from))
