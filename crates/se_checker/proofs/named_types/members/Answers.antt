use Rattle.text_rows.specs.TextLines.{fields_in}
use Rattle.se_checker.proofs.NamedTypes.{all_found}
use Rattle.se_checker.proofs.named_types.members.Goals as goal

pub returns-in-None : goal.returns-in-None
returns-in-None c =
    let file = c.is_accepted.ensures.accepted in
    all_found file.0 c.args.policy.now (fields_in c.args.names.now) (fields_in c.each.rest.now) c.each.found.values c.to_set.result file.1 c.in-None.ensures c.each.invariant.1 c.to_set.ensures.form c.to_set.ensures.bits
