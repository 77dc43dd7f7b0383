use Rattle.numbered_rules.proofs.LeftFacts.{step_found}
use Rattle.numbered_rules.proofs.left.add_missing.Goals as goal

pub loop-form-preserved : goal.loop-form-preserved
loop-form-preserved c = (
  λ sets old forms. c.in_ok-add_if_missing.ensures.sets sets (c.loop-form.invariant.0 sets old forms) (forms c.loop-form.form-index _ c.loop-form-test.true),
  λ test e. c.in_ok-add_if_missing.ensures.kept test (c.loop-form.invariant.1 test e),
  λ test. step_found test c.args.forms.now c.args.others.now c.loop-form.left.items c.add_if_missing.new.left.items c.loop-form.form-index _ c.loop-form-test.true
      (c.loop-form.invariant.2 test) (c.in_ok-add_if_missing.ensures.kept test) (c.in_ok-add_if_missing.ensures.all test),
)
