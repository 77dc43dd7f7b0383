-- No more rules are found than there are.
use Rattle.std.proofs.Common.{◌≤◌, length, arith}
use Rattle.std.specs.List.{range_with_len}
use Rattle.std.proofs.lemmas.List.FromFn.{length-range_with_len}
use Rattle.std.proofs.lemmas.List.Sums.{count_by-le-length, length-filter}
use Rattle.pol_file.specs.declared.Parts.{Parts}
use Rattle.pol_read.specs.StoredRules.{stored_rules}
use Rattle.rule_order.specs.ListedOrder.{in_rule_order, is_listed_before}
use Rattle.rule_order.proofs.FirstOrdered.{ordered_long}
use Rattle.rule_criteria.specs.declared.Criteria.{Criteria}
use Rattle.rule_query.specs.Meeting.{meets, meeting}

pub found_are_few : (policy : Parts) (criteria : Criteria) → length (in_rule_order policy (meeting policy criteria)) ≤ length (stored_rules policy)
found_are_few policy criteria =
    let all = range_with_len 0 (length (stored_rules policy)) in
    omega (arith, ordered_long (is_listed_before policy) (meeting policy criteria), length-filter (meets policy criteria) all, count_by-le-length (meets policy criteria) all, length-range_with_len 0 (length (stored_rules policy)))
