use Rattle.se_walks.specs.GraphItems.{edge_items}
use Rattle.se_walks.proofs.graph_items.write_items.Goals as goal

pub returns-in-None : goal.returns-in-None
unfolding edge_items
returns-in-None g c policy nodes = rw (c.in-None.is, ← nodes) c.write_edges.ensures

pub returns-in-Some : goal.returns-in-Some
returns-in-Some g c policy nodes = rw c.in-Some.is (c.write_paths.ensures policy nodes)
