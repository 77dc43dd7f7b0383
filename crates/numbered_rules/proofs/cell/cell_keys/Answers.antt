use Rattle.std.proofs.Common.{map, ap, ◌∙◌}
use Rattle.numbered_rules.specs.Forms.{form_key}
use Rattle.numbered_rules.specs.Inner.Cells.{with_keys}
use Rattle.numbered_rules.proofs.FormFacts.{keys_are}
use Rattle.numbered_rules.proofs.cell.cell_keys.Goals as goal

pub returns : goal.returns
returns c sets =
    c.in_ok-add_keys-2.ensures
    ∙ ap (with_keys (map (form_key c.args.source c.args.target) c.args.first.now))
    (c.in_ok-add_keys.ensures ∙ ap (with_keys (map (form_key c.args.source c.args.target) c.args.second.now)) c.new-keys.ensures.items)
    ∙ keys_are c.args.source c.args.target sets c.args.first.now c.args.second.now
