use Rattle.std.proofs.Common.{◌≡◌, drop}
use Rattle.std.specs.List.{list_all}
use Rattle.rule_query.specs.Inner.NumberedRules.{rule_at}
use Rattle.rule_query.specs.QueryTests.{rule_test}
use Rattle.rule_query.proofs.query.all_pass.Given as goal

-- the tests before this one pass
abbrev pub invariant-loop-test : goal.invariant-loop-test
invariant-loop-test l = list_all (rule_test l.policy.symbols (rule_at l.policy l.number)) (drop l.test-index l.tests) ≡ list_all (rule_test l.policy.symbols (rule_at l.policy l.number)) l.tests
