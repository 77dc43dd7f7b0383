use Rattle.std.proofs.Common.{◌≡◌, take}
use Rattle.std.specs.List.{filter}
use Rattle.pol_bitmap.specs.Nodes.{bits_of}
use Rattle.numbered_rules.specs.NumberedRules.{has}
use Rattle.numbered_rules.proofs.left.with_classes.Given as goal

abbrev pub invariant-loop-form : goal.invariant-loop-form
invariant-loop-form l = l.found.items ≡ filter (λ form. has (bits_of l.classes) form.class) (take l.form-index l.forms)
