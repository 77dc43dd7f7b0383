use Rattle.std.proofs.Common.{◌∙◌, ◌++◌, ℕ, List, ap}
use Rattle.rule_text.specs.RuleFrames.{frame_target}
use Rattle.se_search.proofs.RowTexts.{none_given, none_pushed, targets_pushed}
use Rattle.se_search.proofs.row_lines.push_targets.Goals as goal

pub returns-in_default : goal.returns-in_default
returns-in_default c = none_pushed _ c.args.most c.args.targets.now c.next.new.self c.args.buffer.now.items (none_given c.args.targets.now c.next.new.self c.next.result c.next.ensures.steps c.in_default.not-Some)

pub returns : goal.returns
returns c =
    let frame = c.args.frame.now in
    targets_pushed frame.head.items frame.frame.rest.items c.deref-2.result.now (frame_target frame.frame) c.args.most c.in-Some.first c.in_ok-others.others c.args.targets.now c.next.new.self c.push_others.new.targets
    c.args.buffer.now.items c.extend_from_slice.new.self.items c.push_target.new.buffer.items c.push_others.new.buffer.items c.extend_from_slice-2.new.self.items
    (c.deref-2.ensures.value ∙ c.requires.between) c.requires.some c.in-Some.ensures.steps
    (c.in_ok-extend_from_slice.ensures.items ∙ ap (λ (head : List ℕ). c.args.buffer.now.items ++ head) c.deref.ensures.value)
    c.in_ok-push_target.ensures c.in_ok-others.ensures
    (c.in_ok-extend_from_slice-2.ensures.items ∙ ap (λ (rest : List ℕ). c.push_others.new.buffer.items ++ rest) c.rest.ensures)
