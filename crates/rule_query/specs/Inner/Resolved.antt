-- What the tests of criteria tell, in a policy. It serves the code alone.
use Rattle.std.specs.Prelude.{◌≡◌, Bool, List, [], ◌∷◌, ◌++◌}
use Rattle.std.specs.List.{list_all}
use Rattle.pol_file.specs.declared.Parts.{Parts}
use Rattle.pol_read.specs.DeclaredRules.{IsDeclaredRule}
use Rattle.pol_read.specs.StoredRules.{StoredRule}
use Rattle.rule_query.specs.declared.tests.Test.{Test}
use Rattle.rule_query.specs.GivenCriteria.{Given, source_given, target_given}
use Rattle.rule_query.specs.Meeting.{meets_given}
use Rattle.rule_query.specs.Queries.{AreTypesOf}
use Rattle.rule_query.specs.QueryTests.{first_of, rule_test, sources_of, targets_of}

-- A rule that names what the policy declares, as each stored rule does, passes a test exactly where it meets the criterion. A test of
-- sources is that of a criterion of sources, a test of targets that of a criterion of targets.
pub record IsTestOf (policy : Parts) (given : Given) (test : Test) : Type 0 where
  pub tells : (rule : StoredRule) → IsDeclaredRule policy rule → rule_test policy.symbols rule test ≡ meets_given policy rule given
  pub sources : AreTypesOf policy (source_given given) (sources_of test)
  pub targets : AreTypesOf policy (target_given given) (targets_of test)

-- a list of tests gained that of a criterion
pub record Gains (policy : Parts) (given : Given) (old new : List Test) : Type 0 where
  pub test : Test
  pub added : new ≡ old ++ test ∷ []
  pub right : IsTestOf policy given test

-- Two lists of the same tests, whichever comes first: what passes all of one passes all of the other, and they ask for the same types.
pub record AreSameTests (these those : List Test) : Type 0 where
  pub pass : (p : Test → Bool) → list_all p those ≡ list_all p these
  pub sources : first_of sources_of those ≡ first_of sources_of these
  pub targets : first_of targets_of those ≡ first_of targets_of these
