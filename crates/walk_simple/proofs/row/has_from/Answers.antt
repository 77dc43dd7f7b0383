use Rattle.walk_simple.proofs.Ending.{found_from, none_from}
use Rattle.walk_simple.proofs.row.has_from.Goals as goal

pub returns-in-Ok : goal.returns-in-Ok
returns-in-Ok c = found_from c.args.row.now c.args.node c.args.first c.in-Ok.place c.requires c.in-Ok.ensures.position

pub returns-in-Err : goal.returns-in-Err
returns-in-Err c = none_from c.args.row.now c.args.node c.args.first c.in-Err.field-0 c.requires c.in-Err.ensures.position
