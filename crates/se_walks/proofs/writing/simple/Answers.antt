use Rattle.se_walks.proofs.WalkSteps.{simple-nodes}
use Rattle.se_walks.proofs.writing.simple.Goals as goal

pub invariant_of-result-clause-some : goal.invariant_of-result-clause-some
invariant_of-result-clause-some g c = λ nodes has. simple-nodes (g.G.Graph.edge c.args.graph.now) (g.G.Graph.nodes c.args.graph.now) c.args.from c.args.to c.args.most c.in_ok-simple.simple.walks nodes c.in_ok-simple.ensures.walks has
