use Rattle.perm_map.proofs.Repeating.{map_read}
use Rattle.perm_map.proofs.map.PermMap.read.Goals as goal

pub returns : goal.returns
returns c = map_read c.args.bytes.now c.new-rows.result c.read_classes.new.rows c.new-map.result c.read_classes.new.map c.new-rows.ensures c.new-map.ensures c.in_ok-read_classes.ensures c.in-Err.ensures.row.0
