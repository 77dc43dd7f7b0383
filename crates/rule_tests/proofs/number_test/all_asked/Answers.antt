use Rattle.std.proofs.Common.{◌∙◌, ap}
use Rattle.std.specs.Prelude.{not}
use Rattle.pol_avtab.specs.XPerms.{numbers_of}
use Rattle.rule_tests.specs.AskedNumbers.{is_asked}
use Rattle.rule_tests.proofs.PermissionBits.{de_morgan}
use Rattle.rule_tests.proofs.number_test.all_asked.Goals as goal

pub returns : goal.returns
returns c = ap not c.any_unasked.ensures ∙ de_morgan (is_asked c.args.spans.now) (numbers_of c.args.numbers.now)
