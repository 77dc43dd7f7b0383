use Rattle.se_walks.specs.GraphItems.{walk_items}
use Rattle.se_walks.proofs.NoItems.{no_items_sent}
use Rattle.se_walks.proofs.graph_items.write_paths.Goals as goal

pub returns-then-has_either : goal.returns-then-has_either
unfolding walk_items
returns-then-has_either g c policy nodes = rw (← c.if-has_either.ensures) (no_items_sent _ c.args.window.from c.args.window.limit _)

pub returns : goal.returns
unfolding walk_items
returns g c policy nodes = rw (← c.if-has_either.ensures, ← nodes) c.write_walks.ensures
