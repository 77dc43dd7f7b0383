use Rattle.perm_map.specs.PermissionMap.{class_at}
use Rattle.perm_map.proofs.Repeating.{done_more, done_none}
use Rattle.perm_map.proofs.classes.read_each_class.Goals as goal

pub loop-init : goal.loop-init
loop-init c = done_none (class_at c.args.rows.now.past) c.args.count c.args.rows.now c.args.map.now

pub loop-preserved : goal.loop-preserved
loop-preserved c =
    done_more (class_at) c.args.count c.loop.counter c.args.rows.now c.loop.rows c.read_class.new.rows c.args.map.now c.loop.map c.read_class.new.map c.loop.invariant c.loop-test.true c.in_ok-read_class.ensures
