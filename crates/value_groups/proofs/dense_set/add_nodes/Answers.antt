use Rattle.std.proofs.Common.{◌≡◌, ℕ, ◌/◌, ◌<◌, length, get_or, set, bit_or, ap, ◌∙◌, arith}
use Rattle.std.proofs.lemmas.List.{length-set, get_or_default}
use Rattle.pol_bitmap.specs.declared.Node.{Node}
use Rattle.value_groups.specs.Inner.Dense.{word_has}
use Rattle.value_groups.proofs.Words.{word_or, nodes_more, start_within, start_whole}
use Rattle.value_groups.proofs.dense_set.add_nodes.Goals as goal

pub index_mut-requires : goal.index_mut-requires
index_mut-requires c =
    let within = start_within c.args.nodes.now (length c.args.words.now.items) c.loop-node.node-index (record { start = 0; map = 0 }) c.loop-node-test.true c.requires.set c.requires.within in
    omega (arith, within, c.loop-node.invariant.0, c.loop-node.words.ok.0)

pub loop-node-preserved : goal.loop-node-preserved
loop-node-preserved c =
    let words = c.loop-node.words.items in
    let nodes = c.args.nodes.now in
    let i = c.loop-node.node-index in
    let d : Node = record { start = 0; map = 0 } in
    let n = get_or nodes i d in
    let k = n.start / 64 in
    let within : k < length words = omega (arith, start_within nodes (length c.args.words.now.items) i d c.loop-node-test.true c.requires.set c.requires.within, c.loop-node.invariant.0) in
    let read : c.index_mut.result.now ≡ get_or words k 0 = c.index_mut.ensures.value ∙ get_or_default words k c.index_mut.result.now 0 within in
    let next = set words k (bit_or c.index_mut.result.now n.map) in (
      length-set words k (bit_or c.index_mut.result.now n.map) ∙ c.loop-node.invariant.0,
      nodes_more c.args.words.now.items words next nodes i d c.loop-node-test.true c.loop-node.invariant.1
          (λ value. ap (λ (w : ℕ). word_has (set words k (bit_or w n.map)) value) read ∙ word_or words n value (start_whole nodes i d c.loop-node-test.true c.requires.set) within),
    )
