use Rattle.std.proofs.Common.{◌++◌, ◌∙◌, List, ℕ, ap, sym}
use Rattle.pol_mls.proofs.RunTexts.{left_goes_on, cut_step}
use Rattle.pol_mls.proofs.run_text.push_value.Goals as goal

pub returns-then-goes_on : goal.returns-then-goes_on
returns-then-goes_on g c = λ rest. rw c.in-Some.is (ap (λ (t : List ℕ). c.args.out.now.items ++ t) (left_goes_on (g.N.Names.named c.args.names.now) c.in-Some.run'.first c.in-Some.run'.last c.args.value rest c.in-Some.run'.rises (sym c.goes_on.ensures ∙ c.if-goes_on.true)))

pub returns-in_ok-push-in-Some : goal.returns-in_ok-push-in-Some
returns-in_ok-push-in-Some g c = λ rest. rw c.in-Some.is (cut_step (g.N.Names.named c.args.names.now) c.args.out.now.items c.push_run.new.out.items c.push-in-Some.new.self.items c.in-Some.run' c.of-in-Some.result c.args.value rest (sym c.goes_on.ensures ∙ c.if-goes_on.false) c.in_ok-push_run-in-Some.ensures c.in_ok-push-in-Some.ensures.items c.of-in-Some.ensures.first c.of-in-Some.ensures.last)
