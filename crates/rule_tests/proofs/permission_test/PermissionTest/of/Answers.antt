use Rattle.std.proofs.Common.{◌≡◌, ◌∙◌, ◌∷◌, [], Bor, List, ℕ, map, refl, ap, subst}
use Rattle.rule_criteria.specs.Elements.{elements_of}
use Rattle.rule_tests.specs.AskedPermissions.{compare_names}
use Rattle.rule_tests.specs.PartTests.{AreClassBits}
use Rattle.rule_tests.proofs.ClassPermissions.{ioctl}
use Rattle.rule_tests.proofs.permission_test.PermissionTest.of.Goals as goal

pub returns : goal.returns
returns c =
    let bytes = λ (name : Bor (List ℕ)). name.now in
    let text : elements_of c.as_bytes.result.now ≡ elements_of c.args.criterion.now.text = ap elements_of (c.as_bytes.ensures.value ∙ c.as_str.ensures) in
    let first : map bytes c.deref.result.now ≡ elements_of c.args.criterion.now.text = ap (map bytes) c.deref.ensures.value ∙ c.in_ok-names.ensures ∙ text in
    let second : map bytes c.deref-2.result.now ≡ elements_of c.args.criterion.now.text = ap (map bytes) c.deref-2.ensures.value ∙ c.in_ok-names.ensures ∙ text in
    record {
      mode = refl;
      ioctl = c.has_ioctl.ensures ∙ ap (λ (xs : List (List ℕ)). compare_names c.args.criterion.now.mode xs (ioctl ∷ [])) first;
      classes = subst (λ (xs : List (List ℕ)). AreClassBits c.args.symbols.now xs c.in_ok-all_classes.field-0.items) second c.in_ok-all_classes.ensures;
    }
