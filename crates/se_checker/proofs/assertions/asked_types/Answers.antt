use Rattle.text_rows.specs.TextLines.{fields_in}
use Rattle.se_checker.proofs.WantedTypes.{wanted_named}
use Rattle.se_checker.proofs.assertions.asked_types.Goals as goal

pub returns : goal.returns
returns c =
    wanted_named c.args.policy.now (fields_in c.args.names.now) (fields_in c.args.exempt.now) c.in_ok-asked.asked c.in_ok-without.without c.difference.result c.in_ok-asked.ensures c.in_ok-without.ensures c.difference.ensures.bits
