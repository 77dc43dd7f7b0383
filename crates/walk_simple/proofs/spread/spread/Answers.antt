use Rattle.std.proofs.Common.{◌≡◌, ◌<◌, ◌+◌, ◌∷◌, ℕ, arith, sym, ap, ◌∙◌, length, drop, drop-cons, add-one}
use Rattle.std.specs.Prelude.{slice_index}
use Rattle.std.proofs.lemmas.List.{get_or_default}
use Rattle.walk_enum.proofs.Spreading.{up_to_new, up_to_old, here_within}
use Rattle.walk_simple.proofs.spread.spread.Goals.{then-index-eq0+in_ok-push, else-index-eq0}
use Rattle.walk_simple.proofs.spread.spread.Goals as goal

pub loop-node-preserved : goal.loop-node-preserved
loop-node-preserved c =
    let old = c.args.marks.now.items in
    let queue = c.args.queue.now.items in
    let now = c.loop-node.marks.items in
    let all = c.args.row.now in
    let i = c.loop-node.node-index in
    let x = slice_index all i in
    let is : drop i all ≡ x ∷ drop (i + 1) all = drop-cons all i 0 c.loop-node-test.true ∙ ap (λ (n : ℕ). x ∷ drop n all) (sym (add-one i)) in
    let within : x < length now = here_within old now queue c.loop-node.queue.items all (drop i all) (drop (i + 1) all) 1 x c.loop-node.invariant is c.requires in
    let at : c.index.result.now ≡ slice_index now x = c.index.ensures ∙ get_or_default now x c.index.result.now 0 within in
    elim c.if-index-eq0.branch [
      | then-index-eq0+in_ok-push w ↦ rw (w.marks-is, w.queue-is, w.in_ok-push.ensures.items)
          (up_to_new old now queue c.loop-node.queue.items all (drop i all) (drop (i + 1) all) 1 x c.loop-node.invariant is (omega arith) within (sym at ∙ w.if-index-eq0.true))
      | else-index-eq0 w ↦ rw (w.marks-is, w.queue-is)
          (up_to_old old now queue c.loop-node.queue.items all (drop i all) (drop (i + 1) all) 1 x c.loop-node.invariant is (omega (arith, at, w.if-index-eq0.false)))
    ]
