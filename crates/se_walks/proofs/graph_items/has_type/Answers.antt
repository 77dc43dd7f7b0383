use Rattle.se_walks.proofs.NoItems.{has-is}
use Rattle.se_walks.proofs.graph_items.has_type.Goals as goal

pub returns : goal.returns
returns c = has-is c.has.result c.args.set.now c.args.value c.has.ensures
