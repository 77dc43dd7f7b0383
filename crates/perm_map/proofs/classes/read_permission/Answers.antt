use Rattle.perm_map.specs.Inner.RowViews.{permission_line_of}
use Rattle.perm_map.proofs.Repeating.{permission_read}
use Rattle.perm_map.proofs.classes.read_permission.Goals as goal

pub returns : goal.returns
returns c =
    permission_read c.args.rows.now c.next_permission.new.rows c.args.class.now (permission_line_of c.in_ok-line.line) c.args.map.now c.add.new.self c.in_ok-line.ensures.0 c.in_ok-line.ensures.1 c.in_ok-add.ensures
