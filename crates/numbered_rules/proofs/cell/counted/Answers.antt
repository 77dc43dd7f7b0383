use Rattle.std.proofs.Common.{subst, ◌∙◌}
use Rattle.pol_bitmap.specs.Sets.{IsSet}
use Rattle.numbered_rules.proofs.FormFacts.{items_within}
use Rattle.numbered_rules.proofs.CountedFacts.{counted_without}
use Rattle.numbered_rules.proofs.cell.counted.Goals as goal

pub union_of-requires : goal.union_of-requires
union_of-requires c =
    items_within c.args.pool.now c.unconditioned.result c.args.forms.now c.deref.result.now c.requires (c.deref.ensures.value ∙ c.in_ok-unconditional-in-Permissions.ensures)

pub returns-in_ok-difference-in-Permissions : goal.returns-in_ok-difference-in-Permissions
returns-in_ok-difference-in-Permissions c =
    counted_without c.args.counting c.args.pool.now c.args.key c.unconditioned.result c.args.forms.now c.deref.result.now c.args.given c.in_ok-others-in-Permissions.others c.in_ok-difference-in-Permissions.field-0
    c.in-Permissions.is c.if-key-eq0.false c.unconditioned.ensures (c.deref.ensures.value ∙ c.in_ok-unconditional-in-Permissions.ensures) c.in_ok-others-in-Permissions.ensures.bits
    (subst IsSet c.given.view_is c.given.invariant) c.in_ok-difference-in-Permissions.ensures.form c.in_ok-difference-in-Permissions.ensures.bits
