use Rattle.se_options.proofs.Parts.{same-criteria}
use Rattle.se_options.proofs.search_criteria.criteria_in.Goals as goal

pub returns : goal.returns
returns c =
    same-criteria c.kinds_in.ensures c.in_ok-end_criterion.ensures c.in_ok-end_criterion-2.ensures c.in_ok-name_criterion.ensures c.in_ok-permission_criterion.ensures
    c.in_ok-number_criterion.ensures c.in_ok-name_criterion-2.ensures c.in_ok-boolean_criterion.ensures
