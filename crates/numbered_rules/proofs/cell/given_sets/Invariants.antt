use Rattle.std.proofs.Common.{◌≡◌, map, take}
use Rattle.std.specs.List.{filter}
use Rattle.numbered_rules.specs.Forms.{is_form_of}
use Rattle.numbered_rules.proofs.cell.given_sets.Given as goal

abbrev pub invariant-loop-form : goal.invariant-loop-form
invariant-loop-form l = l.sets.items ≡ map (λ form. form.given) (filter (is_form_of l.key) (take l.form-index l.forms))
