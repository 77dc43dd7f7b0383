use Rattle.std.proofs.Common.{ℕ, List, ap, ◌∙◌, arith}
use Rattle.std.specs.List.{flat_map}
use Rattle.pol_cursor.specs.References.{Placed}
use Rattle.pol_trans.specs.declared.NameDatumRec.{NameDatumRec}
use Rattle.pol_trans.specs.declared.NameGroupRec.{NameGroupRec}
use Rattle.pol_read.specs.Inner.RuleNumbers.{nodes_of_datum, nodes_of_group, with_rules}
use Rattle.pol_read.proofs.RuleNodes.{group_total, datum_total, datum_more, adding_limit, adding_more}
use Rattle.pol_read.proofs.name_index.index_group.Goals as goal

pub index_datum-requires-clause-limit : goal.index_datum-requires-clause-limit
index_datum-requires-clause-limit c =
    let symbols = c.args.symbols.now in
    let group : ℕ × Placed NameGroupRec = (c.args.number, c.args.group.now) in
    let first = c.args.index.now in
    let rest = c.next.new.self in
    adding_limit symbols first.lengths first.places.items c.loop-datum.index (with_rules symbols (nodes_of_group group)) (with_rules symbols (flat_map (nodes_of_datum group) c.loop-datum.datum-iterator))
    (with_rules symbols (nodes_of_datum group c.in-Some.datum)) (with_rules symbols (flat_map (nodes_of_datum group) rest)) _ 400000000
    (ap (λ (datums : List (Placed NameDatumRec)). with_rules symbols (flat_map (nodes_of_datum group) datums)) c.in-Some.ensures.steps ∙ datum_more symbols group c.in-Some.datum rest)
    (datum_total symbols group c.in-Some.datum) (omega (arith, group_total symbols group, c.requires.limit)) c.loop-datum.invariant.adding

pub loop-datum-preserved : goal.loop-datum-preserved
loop-datum-preserved c =
    let symbols = c.args.symbols.now in
    let group : ℕ × Placed NameGroupRec = (c.args.number, c.args.group.now) in
    let first = c.args.index.now in
    let rest = c.next.new.self in
    record {
      adding =
          adding_more symbols first.lengths first.places.items c.loop-datum.index (with_rules symbols (nodes_of_group group)) (with_rules symbols (flat_map (nodes_of_datum group) c.loop-datum.datum-iterator)) _
          (with_rules symbols (nodes_of_datum group c.in-Some.datum)) (with_rules symbols (flat_map (nodes_of_datum group) rest))
          (ap (λ (datums : List (Placed NameDatumRec)). with_rules symbols (flat_map (nodes_of_datum group) datums)) c.in-Some.ensures.steps ∙ datum_more symbols group c.in-Some.datum rest)
          c.in_ok-index_datum.ensures.gains c.loop-datum.invariant.adding;
      few = c.in_ok-index_datum.ensures.few;
    }
