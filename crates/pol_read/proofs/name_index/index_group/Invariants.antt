use Rattle.std.proofs.Common.{ℕ, ◌≤◌, length, sum}
use Rattle.std.specs.List.{flat_map}
use Rattle.pol_cursor.specs.References.{Placed}
use Rattle.pol_trans.specs.declared.NameGroupRec.{NameGroupRec}
use Rattle.pol_read.specs.Inner.RuleNumbers.{nodes_of_datum, nodes_of_group, with_rules}
use Rattle.pol_read.proofs.RuleNodes.{Adding}
use Rattle.pol_read.proofs.name_index.index_group.Given as goal

abbrev pub invariant-loop-datum : goal.invariant-loop-datum
invariant-loop-datum l =
    let group : ℕ × Placed NameGroupRec = (l.number, l.group) in
    record {
      adding : Adding l.symbols l.initial.index.lengths l.initial.index.places.items l.index (with_rules l.symbols (nodes_of_group group)) (with_rules l.symbols (flat_map (nodes_of_datum group) l.datum-iterator));
      few : length l.index.lengths ≤ sum l.index.lengths;
    }
