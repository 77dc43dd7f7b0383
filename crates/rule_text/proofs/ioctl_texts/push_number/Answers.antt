use Rattle.std.proofs.Common.{◌++◌, ◌∙◌, List, ℕ, ap, sym}
use Rattle.rule_text.specs.IoctlTexts.{run_text}
use Rattle.rule_text.specs.Inner.IoctlRuns.{numbers_in}
use Rattle.rule_text.proofs.RunTexts.{first_goes_on, later_goes_on, first_is_cut, later_is_cut}
use Rattle.rule_text.proofs.ioctl_texts.push_number.Goals as goal

pub returns-then-goes_on : goal.returns-then-goes_on
returns-then-goes_on c = λ rest. rw c.in-First.is (ap (λ (t : List ℕ). c.args.buffer.now.items ++ t) (first_goes_on c.in-First.run' c.args.number rest (sym c.goes_on.ensures ∙ c.if-goes_on.true)))

pub returns-then-goes_on-2 : goal.returns-then-goes_on-2
returns-then-goes_on-2 c = λ rest. rw c.in-Later.is (ap (λ (t : List ℕ). c.args.buffer.now.items ++ t) (later_goes_on c.in-Later.run' c.args.number rest (sym c.goes_on-in-Later.ensures ∙ c.if-goes_on-2.true)))

pub returns-in_ok-push_run-in-First : goal.returns-in_ok-push_run-in-First
returns-in_ok-push_run-in-First c = λ rest. rw c.in-First.is (first_is_cut c.args.buffer.now.items c.push_run.new.buffer.items c.in-First.run' c.of-in-First.result c.args.number rest (sym c.goes_on.ensures ∙ c.if-goes_on.false) c.of-in-First.ensures.first c.of-in-First.ensures.last (c.in_ok-push_run-in-First.ensures ∙ ap (λ (t : List ℕ). t ++ run_text (numbers_in c.in-First.run')) c.in_ok-extend_from_slice-in-First.ensures.items))

pub returns-in_ok-push_run-in-Later : goal.returns-in_ok-push_run-in-Later
returns-in_ok-push_run-in-Later c = λ rest. rw c.in-Later.is (later_is_cut c.args.buffer.now.items c.push_run-in-Later.new.buffer.items c.in-Later.run' c.of-in-Later.result c.args.number rest (sym c.goes_on-in-Later.ensures ∙ c.if-goes_on-2.false) c.of-in-Later.ensures.first c.of-in-Later.ensures.last (c.in_ok-push_run-in-Later.ensures ∙ ap (λ (t : List ℕ). t ++ run_text (numbers_in c.in-Later.run')) c.in_ok-push-in-Later.ensures.items))
