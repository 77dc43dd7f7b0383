use Rattle.std.proofs.Common.{ℕ, rules, tests}
use Rattle.std.specs.Prelude.{not}
use Rattle.std.proofs.lemmas.Iterator.Search.{any_from_yields_List}
use Rattle.std.proofs.lemmas.Iterator.Consumers.{YieldsList-from_first}
use Rattle.pol_avtab.specs.XPerms.{numbers_of}
use Rattle.rule_tests.specs.AskedNumbers.{is_asked}
use Rattle.rule_tests.proofs.number_test.any_unasked.Goals as goal

pub returns : goal.returns
returns c = any_from_yields_List (λ (number : ℕ). not (is_asked c.args.spans.now number)) _ _ c.any.result c.any.ensures.ran (YieldsList-from_first (λ x. x) (λ rest. rest) (numbers_of c.args.numbers.now) c.numbers.ensures) (λ x b q k. search (rules, tests))
