use Rattle.std.proofs.Common.{◌≡◌, ◌<◌, [], inl, inr, arith, sym, ◌∙◌, length}
use Rattle.std.specs.Prelude.{slice_index}
use Rattle.std.proofs.lemmas.List.{get_or_default}
use Rattle.walk_enum.specs.Inner.Turns.{row_of}
use Rattle.walk_simple.proofs.Settling.{settles_new, settles_old, none_near}
use Rattle.walk_simple.proofs.distances.settle.Goals.{then-index-steps+then-has_near, else-index-steps, else-index-steps-via-then-index-steps+else-has_near, else-index-steps-via-else-index-steps}
use Rattle.walk_simple.proofs.distances.settle.Goals as goal

pub loop-node-preserved : goal.loop-node-preserved
loop-node-preserved c =
    let rows = c.args.rows.now in
    let next = row_of rows in
    let old = c.args.far.now.items in
    let now = c.loop-node.far.items in
    let node = c.loop-node.node in
    let k = c.args.steps in
    let within : node < length now = omega (arith, c.loop-node-test.true, c.loop-node.invariant.long, c.requires.long) in
    let at : c.index.result.now ≡ slice_index now node = c.index.ensures ∙ get_or_default now node c.index.result.now 0 within in
    elim c.if-index-steps.branch [
      | then-index-steps+then-has_near w ↦ rw w.far-is (settles_new next old now k node c.loop-node.invariant within (omega (arith, at, w.if-index-steps.true)))
      | else-index-steps w ↦ rw w.far-is (elim w.else-index-steps.branch [
        | else-index-steps-via-then-index-steps+else-has_near v ↦
            let row : v.as_slice.result.now ≡ next node = v.as_slice.ensures ∙ v.index-rows-node.is ∙ get_or_default rows node v.index-rows-node.result [] c.loop-node-test.true in
            settles_old next old now k node c.loop-node.invariant (inl (none_near now k (next node) (rw (sym row, sym v.deref.ensures.value) (sym v.has_near.ensures ∙ v.if-has_near.false))))
        | else-index-steps-via-else-index-steps v ↦ settles_old next old now k node c.loop-node.invariant (inr (omega (arith, at, v.if-index-steps.false)))
      ])
    ]
