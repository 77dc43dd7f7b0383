use Rattle.std.proofs.Common.{◌≡◌, ℕ, ◌+◌, ◌*◌, ◌++◌, ◌∷◌, [], List, length, take, get_or, sym, ap, subst, ◌∙◌, arith}
use Rattle.std.proofs.lemmas.List.{length-take-le, take_more}
use Rattle.pol_bitmap.specs.declared.Node.{Node}
use Rattle.value_groups.proofs.Words.{AreNodesOf, nodes_none, nodes_skip, nodes_push, nodes_end}
use Rattle.value_groups.proofs.dense_set.nodes_of.Goals as goal
use Rattle.value_groups.proofs.dense_set.nodes_of.Goals.{then-map-ne0+in_ok-push, else-map-ne0}

pub loop-place-init : goal.loop-place-init
loop-place-init c = rw c.new-nodes.ensures.items nodes_none

pub loop-place-preserved : goal.loop-place-preserved
loop-place-preserved c =
    let words = c.args.words.now in
    let i = c.loop-place.place in
    let word = get_or words i 0 in
    let nodes = c.loop-place.nodes.items in
    let front = take i words in
    let more : take (i + 1) words ≡ front ++ word ∷ [] = take_more words i 0 c.loop-place-test.true in
    let size : length front ≡ i = length-take-le i words (omega (arith, c.loop-place-test.true)) in
    elim c.if-map-ne0.branch [
      | then-map-ne0+in_ok-push w ↦
          let n : Node = record { start = i * 64; map = word } in
          rw (w.nodes-is, w.in_ok-push.ensures.items) (subst (λ (ws : List ℕ). AreNodesOf ws (nodes ++ n ∷ [])) (sym more)
          (nodes_push front word (i * 64) nodes c.loop-place.invariant (omega (arith, w.if-map-ne0.true)) (omega (arith, c.type_inv.words i)) (omega (arith, size, c.loop-place-test.true, c.requires)) (omega (arith, size))))
      | else-map-ne0 w ↦
          rw w.nodes-is (subst (λ (ws : List ℕ). AreNodesOf ws nodes) (ap (λ (x : ℕ). front ++ x ∷ []) (sym w.if-map-ne0.false) ∙ sym more) (nodes_skip front nodes c.loop-place.invariant))
    ]

pub returns-clause-set : goal.returns-clause-set
returns-clause-set c = nodes_end (take c.loop-place.place c.args.words.now) c.loop-place.nodes.items c.loop-place.invariant
