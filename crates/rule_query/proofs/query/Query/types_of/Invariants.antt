use Rattle.std.proofs.Common.{◌≡◌, drop}
use Rattle.rule_query.specs.QueryTests.{first_of, types_of}
use Rattle.rule_query.proofs.query.Query.types_of.Given as goal

abbrev pub invariant-loop-test : goal.invariant-loop-test
invariant-loop-test l = first_of (types_of l.end) (drop l.test-index l.self.tests.items) ≡ first_of (types_of l.end) l.self.tests.items
