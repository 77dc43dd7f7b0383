use Rattle.std.proofs.Common.{ℕ, ◌≤◌, length, sum}
use Rattle.pol_cursor.specs.References.{Placed}
use Rattle.pol_trans.specs.declared.NameGroupRec.{NameGroupRec}
use Rattle.pol_read.specs.Inner.RuleNumbers.{nodes_of_datum, with_rules}
use Rattle.pol_read.proofs.RuleNodes.{Adding, nodes_left}
use Rattle.pol_read.proofs.name_index.index_datum.Given as goal

abbrev pub invariant-loop-i : goal.invariant-loop-i
invariant-loop-i l =
    let group : ℕ × Placed NameGroupRec = (l.number, l.group) in
    record {
      adding : Adding l.symbols l.initial.index.lengths l.initial.index.places.items l.index (with_rules l.symbols (nodes_of_datum group l.datum)) (with_rules l.symbols (nodes_left group l.datum l.i));
      few : length l.index.lengths ≤ sum l.index.lengths;
    }
