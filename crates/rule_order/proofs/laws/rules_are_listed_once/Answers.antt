use Rattle.rule_order.proofs.ListedOnce.{listed_moved, listed_in_order, listed_strictly, one_order}
use Rattle.rule_order.proofs.SortedNumbers.{are_declared}
use Rattle.rule_order.proofs.laws.rules_are_listed_once.Goals as goal

pub returns-clause-same : goal.returns-clause-same
returns-clause-same c = listed_moved

pub returns-clause-rise : goal.returns-clause-rise
returns-clause-rise c = λ bytes policy numbers accepted are. listed_in_order policy (are_declared bytes policy accepted) numbers are

pub returns-clause-once : goal.returns-clause-once
returns-clause-once c = λ bytes policy numbers accepted are once. listed_strictly policy (are_declared bytes policy accepted) numbers are once

pub returns-clause-one : goal.returns-clause-one
returns-clause-one c = λ bytes policy numbers listed accepted are moved ordered. one_order policy (are_declared bytes policy accepted) numbers are listed moved ordered
