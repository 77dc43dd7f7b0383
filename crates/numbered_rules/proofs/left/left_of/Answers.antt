use Rattle.std.proofs.Common.{ap, ◌∙◌}
use Rattle.std.specs.List.{list_any}
use Rattle.numbered_rules.proofs.LeftFacts.{have_left, same_or}
use Rattle.numbered_rules.proofs.left.left_of.Goals as goal

pub returns-clause-left : goal.returns-clause-left
returns-clause-left c sets =
    have_left sets c.add_missing-2.new.left.items c.args.first.now c.args.second.now
    (λ test e. same_or test c.deref.result.now c.args.second.now c.add_missing.new.left.items c.add_missing-2.new.left.items
    (ap (list_any test) c.deref.ensures.value ∙ c.in_ok-others.ensures.same test) (c.in_ok-add_missing-2.ensures.kept test) (c.in_ok-add_missing.ensures.all test e))
    (λ test e. same_or test c.deref-2.result.now c.args.first.now c.add_missing-2.new.left.items c.add_missing-2.new.left.items
    (ap (list_any test) c.deref-2.ensures.value ∙ c.in_ok-others-2.ensures.same test) (λ h. h) (c.in_ok-add_missing-2.ensures.all test e))
