use Rattle.std.proofs.Common.{ℕ, ◌+◌, List, [], ◌++◌, length, map, sum, ap, arith}
use Rattle.pol_read.specs.declared.name_index.NodePlace.{NodePlace}
use Rattle.pol_read.specs.Inner.RuleNumbers.{lengths_of, rules_at, place_of, nodes_of_group, with_rules, rule_nodes}
use Rattle.pol_read.proofs.RuleNodes.{group_nodes_left, names_total, group_total, group_more, adding_limit, adding_more}
use Rattle.pol_read.proofs.name_index.index_groups.Goals as goal

pub loop-i-init : goal.loop-i-init
loop-i-init c =
    let all = rule_nodes c.args.symbols.now c.args.groups.now in
    let none = c.empty-index.ensures.lengths in
    record {
      adding = record {
        lengths = ap (λ (ns : List ℕ). ns ++ lengths_of (rules_at c.args.symbols.now) all) none;
        places = ap (λ (ps : List NodePlace). ps ++ map place_of all) c.empty-index.ensures.places;
      };
      few = omega (arith, ap (λ (ns : List ℕ). length ns) none, ap (λ (ns : List ℕ). sum ns) none);
    }

pub index_group-requires-clause-limit : goal.index_group-requires-clause-limit
index_group-requires-clause-limit c =
    let symbols = c.args.symbols.now in
    let groups = c.args.groups.now in
    adding_limit symbols [] [] c.loop-i.index (rule_nodes symbols groups) (with_rules symbols (group_nodes_left groups c.loop-i.i)) (with_rules symbols (nodes_of_group (c.loop-i.i, c.view.result))) (with_rules symbols (group_nodes_left groups (c.loop-i.i + 1))) _ 400000000
    (group_more symbols groups c.loop-i.i c.view.result c.view.ensures) (group_total symbols (c.loop-i.i, c.view.result)) (omega (arith, names_total symbols groups, c.requires)) c.loop-i.invariant.adding

pub loop-i-preserved : goal.loop-i-preserved
loop-i-preserved c =
    let symbols = c.args.symbols.now in
    let groups = c.args.groups.now in
    record {
      adding =
          adding_more symbols [] [] c.loop-i.index (rule_nodes symbols groups) (with_rules symbols (group_nodes_left groups c.loop-i.i)) _ (with_rules symbols (nodes_of_group (c.loop-i.i, c.view.result))) (with_rules symbols (group_nodes_left groups (c.loop-i.i + 1)))
          (group_more symbols groups c.loop-i.i c.view.result c.view.ensures) c.in_ok-index_group.ensures.gains c.loop-i.invariant.adding;
      few = c.in_ok-index_group.ensures.few;
    }
