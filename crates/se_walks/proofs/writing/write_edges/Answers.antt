use Rattle.std.proofs.Common.{◌≡◌, ◌∙◌, ℕ, List, ap, arith, length, min, subst, vec_len}
use Rattle.walk_enum.specs.Walks.{successors_of}
use Rattle.se_items.specs.Paging.{page}
use Rattle.se_items.specs.Writing.{Sends}
use Rattle.se_walks.specs.WalkTexts.{end_item}
use Rattle.se_walks.proofs.NumberedTexts.{text-is}
use Rattle.se_walks.proofs.writing.write_edges.Goals as goal

pub returns : goal.returns
returns g c =
    let from = c.args.window.from in
    let limit = c.args.window.limit in
    let all = successors_of (g.G.Graph.edge c.args.graph.now) (g.G.Graph.nodes c.args.graph.now) c.args.node in
    let whole : c.of.result.now ≡ page from limit all = c.of.ensures.items ∙ ap (page from limit) (c.deref.ensures.value ∙ c.in_ok-ends.ensures) in
    let ends = c.in_ok-ends.ends in
    let long : vec_len ends ≡ length ends.items = omega (arith, ends.ok.0) in
    let first : c.min.result ≡ min from (length all) = c.min.ensures ∙ ap (min from) (c.len.ensures ∙ long ∙ ap length c.in_ok-ends.ensures) in
    let P : List ℕ → Type 0 = λ text. Sends (g.S.Sink.state c.args.out.now) (g.S.Sink.state c.write_pieces.new.out) text c.write_pieces.result in
    subst P (text-is (end_item (g.T.EdgeTexts.words c.args.texts.now) c.args.node c.args.reverse) from limit all c.of.result.now c.min.result whole first) c.write_pieces.ensures
