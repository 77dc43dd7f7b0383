use Rattle.std.proofs.Common.{ℕ, ◌+◌, List, [], ◌∷◌, sym, subst, ◌∙◌, arith}
use Rattle.pol_cursor.specs.References.{Placed}
use Rattle.pol_trans.specs.declared.NameGroupRec.{NameGroupRec}
use Rattle.pol_read.specs.Inner.RuleNumbers.{SourceNode, Gains, nodes_of_datum, with_rules}
use Rattle.pol_read.proofs.RuleNodes.{Adding, nodes_left, datum_total, node_some, node_gone, one_total, gains_one, few_more, adding_limit, adding_more}
use Rattle.pol_read.proofs.name_index.index_datum.Goals as goal
use Rattle.pol_read.proofs.name_index.index_datum.Goals.{then-count-gt0+in_ok-push+in_ok-push-2, else-count-gt0}

pub push-requires-clause-limit : goal.push-requires-clause-limit
push-requires-clause-limit c =
    let symbols = c.args.symbols.now in
    let group : ℕ × Placed NameGroupRec = (c.args.number, c.args.group.now) in
    let datum = c.args.datum.now in
    let first = c.args.index.now in
    let at : SourceNode = record { group = group; datum = datum; node = (c.loop-i.i, c.node.result) } in
    adding_limit symbols first.lengths first.places.items c.loop-i.index (with_rules symbols (nodes_of_datum group datum)) (with_rules symbols (nodes_left group datum c.loop-i.i)) (at ∷ []) (with_rules symbols (nodes_left group datum (c.loop-i.i + 1))) c.count_values-count.result 400000000
    (node_some symbols group datum c.loop-i.i c.node.result (rw c.sources-sources.ensures at c.node.ensures.is) (omega (arith, c.if-count-gt0.true, c.count_values-count.ensures)))
    (one_total symbols at ∙ sym c.count_values-count.ensures) (omega (arith, datum_total symbols group datum, c.requires.limit)) c.loop-i.invariant.adding

pub push-requires-clause-few : goal.push-requires-clause-few
push-requires-clause-few c = omega (arith, push-requires-clause-limit c, c.loop-i.invariant.few)

pub loop-i-preserved : goal.loop-i-preserved
loop-i-preserved c =
    let symbols = c.args.symbols.now in
    let group : ℕ × Placed NameGroupRec = (c.args.number, c.args.group.now) in
    let datum = c.args.datum.now in
    let first = c.args.index.now in
    let now = c.loop-i.index in
    let at : SourceNode = record { group = group; datum = datum; node = (c.loop-i.i, c.node.result) } in
    let all = with_rules symbols (nodes_of_datum group datum) in
    let rest = with_rules symbols (nodes_left group datum (c.loop-i.i + 1)) in
    elim c.if-count-gt0.branch [
      | then-count-gt0+in_ok-push+in_ok-push-2 w ↦
          let gains : Gains symbols now c.if-count-gt0.index (at ∷ []) =
          rw w.index-is (gains_one symbols now _ at c.count_values-count.result w.place.result c.count_values-count.ensures w.place.ensures w.in_ok-push.ensures.ok w.in_ok-push-2.ensures.items) in
          record {
            adding =
                adding_more symbols first.lengths first.places.items now all (with_rules symbols (nodes_left group datum c.loop-i.i)) c.if-count-gt0.index (at ∷ []) rest
                (node_some symbols group datum c.loop-i.i c.node.result (rw c.sources-sources.ensures at c.node.ensures.is) (omega (arith, w.if-count-gt0.true, c.count_values-count.ensures))) gains c.loop-i.invariant.adding;
            few = few_more symbols now c.if-count-gt0.index at (omega (arith, w.if-count-gt0.true, c.count_values-count.ensures)) gains c.loop-i.invariant.few;
          }
      | else-count-gt0 w ↦
          rw w.index-is
          (record {
            adding =
                subst (λ (left : List SourceNode). Adding symbols first.lengths first.places.items now all left)
                (node_gone symbols group datum c.loop-i.i c.node.result (rw c.sources-sources.ensures at c.node.ensures.is) (omega (arith, w.if-count-gt0.false, c.count_values-count.ensures))) c.loop-i.invariant.adding;
            few = c.loop-i.invariant.few;
          })
    ]
