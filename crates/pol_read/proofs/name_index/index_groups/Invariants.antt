use Rattle.std.proofs.Common.{◌≤◌, [], length, sum}
use Rattle.pol_read.specs.Inner.RuleNumbers.{with_rules, rule_nodes}
use Rattle.pol_read.proofs.RuleNodes.{Adding, group_nodes_left}
use Rattle.pol_read.proofs.name_index.index_groups.Given as goal

abbrev pub invariant-loop-i : goal.invariant-loop-i
invariant-loop-i l = record {
  adding : Adding l.symbols [] [] l.index (rule_nodes l.symbols l.groups) (with_rules l.symbols (group_nodes_left l.groups l.i));
  few : length l.index.lengths ≤ sum l.index.lengths;
}
