use Rattle.std.proofs.Common.{Bool, sym, ap, ◌∙◌}
use Rattle.std.specs.Prelude.{◌&&◌, not}
use Rattle.pol_bitmap.specs.Nodes.{has_bit}
use Rattle.pol_expand.proofs.Values.{has_is}
use Rattle.pol_expand.proofs.plain_types.is_outside.Goals as goal

pub returns-then-is_type : goal.returns-then-is_type
returns-then-is_type c =
    ap not (has_is c.has.result c.args.excluded.now c.args.value c.has.ensures) ∙ sym (ap (λ (t : Bool). t && not (has_bit c.args.excluded.now c.args.value)) (sym c.is_type.ensures ∙ c.if-is_type.true))
