use Rattle.std.proofs.Common.{◌≡◌, []}
use Rattle.se_items.proofs.Resuming.{page-none}
use Rattle.se_items.proofs.Wrotes.{none_sent}
use Rattle.se_walks.specs.GraphItems.{walks_asked}
use Rattle.se_walks.proofs.writing.write_walks.Goals as goal

pub returns-in-None : goal.returns-in-None
returns-in-None g c =
    let e : walks_asked (g.G.Graph.edge c.args.graph.now) (g.G.Graph.nodes c.args.graph.now) c.args.all c.args.from c.args.to ≡ [] = rw c.in-None.is at c.in_ok-walks_asked.ensures in
    rw (e, page-none c.args.window.from c.args.window.limit) (none_sent _ _)
