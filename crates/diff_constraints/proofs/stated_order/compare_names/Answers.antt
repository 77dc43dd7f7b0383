use Rattle.std.proofs.lemmas.List.{append-nil}
use Rattle.std.proofs.Common.{◌∙◌}
use Rattle.diff_constraints.proofs.StatedOrder.{compared_by_bytes}
use Rattle.diff_constraints.proofs.stated_order.compare_names.Goals as goal

pub cmp-requires : goal.cmp-requires
cmp-requires c κs = λ a. rw (append-nil κs.1.1.1.0) (λ m. m)

pub returns : goal.returns
returns c = c.cmp.ensures ∙ compared_by_bytes c.args.names.now c.args.others.now
