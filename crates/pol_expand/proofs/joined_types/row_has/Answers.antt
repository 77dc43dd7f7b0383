use Rattle.std.proofs.Common.{◌-◌, List, sym, ap, ◌∙◌, slice_get}
use Rattle.pol_bitmap.specs.declared.Node.{Node}
use Rattle.pol_bitmap.specs.Nodes.{has_bit}
use Rattle.pol_expand.proofs.Values.{has_is}
use Rattle.pol_expand.proofs.Holders.{row_is}
use Rattle.pol_expand.proofs.joined_types.row_has.Goals as goal

pub returns : goal.returns
returns c =
    has_is c.has.result c.row.result c.args.bit c.has.ensures
    ∙ ap (λ (row : List Node). has_bit row c.args.bit) (sym (row_is (slice_get c.args.policy.now.labels.type_rows (c.args.value - 1)) c.row.result c.row.ensures))
