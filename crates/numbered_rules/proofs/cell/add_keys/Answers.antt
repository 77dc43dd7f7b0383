use Rattle.std.proofs.Common.{◌-◌, ◌<◌, map, take, ap, ◌∙◌, arith}
use Rattle.numbered_rules.specs.Forms.{form_key}
use Rattle.numbered_rules.specs.Inner.Cells.{with_keys}
use Rattle.numbered_rules.proofs.FormFacts.{last_added}
use Rattle.numbered_rules.proofs.cell.add_keys.Goals as goal

pub forms-preserved : goal.forms-preserved
forms-preserved c =
    let some : 0 < c.forms.left = omega (arith, c.forms-test.true) in (
      omega (arith, c.forms.invariant.0),
      ap (with_keys (map (form_key c.args.source c.args.target) (take (c.forms.left - 1) c.args.forms.now))) c.in_ok-add_key.ensures
          ∙ last_added c.args.source c.args.target c.args.forms.now c.forms.left _ c.forms.keys.items some c.forms.invariant.0 ∙ c.forms.invariant.1,
    )
