use Rattle.std.proofs.Common.{◌≡◌, take}
use Rattle.std.specs.List.{filter}
use Rattle.numbered_rules.specs.Forms.{bits_at}
use Rattle.numbered_rules.specs.NumberedRules.{has}
use Rattle.numbered_rules.proofs.row.forms_to.Given as goal

abbrev pub invariant-loop-form : goal.invariant-loop-form
invariant-loop-form l = l.found.items ≡ filter (λ form. has (bits_at l.pool form.targets) l.target) (take l.form-index l.forms)
