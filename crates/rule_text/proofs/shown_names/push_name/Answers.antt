use Rattle.std.proofs.Common.{refl}
use Rattle.rule_text.specs.Inner.ShownNames.{text_left}
use Rattle.rule_text.proofs.SetTexts.{second_name, next_name}
use Rattle.rule_text.proofs.shown_names.push_name.Goals as goal

pub returns-in-Nothing : goal.returns-in-Nothing
unfolding text_left
returns-in-Nothing c = λ rest. rw c.in-Nothing.is refl

pub returns-in_ok-extend_from_slice-in-First-3 : goal.returns-in_ok-extend_from_slice-in-First-3
unfolding text_left
returns-in_ok-extend_from_slice-in-First-3 c = λ rest. rw c.in-First.is (second_name _ _ _ _ _ c.in-First.first.now c.args.name.now rest c.in_ok-extend_from_slice-in-First.ensures.items c.in_ok-extend_from_slice-in-First-2.ensures.items c.in_ok-push-in-First.ensures.items c.in_ok-extend_from_slice-in-First-3.ensures.items)

pub returns-in_ok-extend_from_slice-in-End : goal.returns-in_ok-extend_from_slice-in-End
unfolding text_left
returns-in_ok-extend_from_slice-in-End c = λ rest. rw c.in-End.is (next_name _ _ _ c.args.name.now rest c.in_ok-push-in-End.ensures.items c.in_ok-extend_from_slice-in-End.ensures.items)
