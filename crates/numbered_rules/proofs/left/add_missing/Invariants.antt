use Rattle.std.proofs.Common.{◌≡◌, ◌⊎◌, Bool, true, List, take}
use Rattle.std.specs.List.{list_any}
use Rattle.pol_bitmap.specs.declared.node.Node.{Node}
use Rattle.numbered_rules.specs.declared.form.RuleForm.{RuleForm}
use Rattle.numbered_rules.specs.Forms.{HaveSets}
use Rattle.numbered_rules.proofs.left.add_missing.Given as goal

abbrev pub invariant-loop-form : goal.invariant-loop-form
invariant-loop-form l =
    ((sets : List (List Node)) → HaveSets sets l.fn.left.items → HaveSets sets l.forms → HaveSets sets l.left.items)
    × ((test : RuleForm → Bool) → list_any test l.fn.left.items ≡ true → list_any test l.left.items ≡ true)
    × ((test : RuleForm → Bool) → list_any test (take l.form-index l.forms) ≡ true → (list_any test l.others ≡ true) ⊎ (list_any test l.left.items ≡ true))
