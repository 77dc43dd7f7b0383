use Rattle.text_rows.specs.TextLines.{fields_in}
use Rattle.se_checker.proofs.WantedTypes.{wanted_all}
use Rattle.se_checker.proofs.assertions.other_types.Goals as goal

pub returns : goal.returns
returns c = wanted_all c.args.policy.now (fields_in c.args.exempt.now) c.in_ok-without.without c.types_outside.result c.in_ok-without.ensures c.types_outside.ensures
