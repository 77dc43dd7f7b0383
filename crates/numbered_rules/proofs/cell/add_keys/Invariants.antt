use Rattle.std.proofs.Common.{◌≡◌, ◌≤◌, length, map, take}
use Rattle.numbered_rules.specs.Forms.{form_key}
use Rattle.numbered_rules.specs.Inner.Cells.{with_keys}
use Rattle.numbered_rules.proofs.cell.add_keys.Given as goal

abbrev pub invariant-forms : goal.invariant-forms
invariant-forms l =
    (l.left ≤ length l.forms)
    × (with_keys (map (form_key l.source l.target) (take l.left l.forms)) l.keys.items ≡ with_keys (map (form_key l.source l.target) l.forms) l.fn.keys.items)

abbrev pub decreases-forms : goal.decreases-forms
decreases-forms l = l.left
