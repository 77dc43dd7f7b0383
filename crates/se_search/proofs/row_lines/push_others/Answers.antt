use Rattle.std.proofs.Common.{◌++◌, arith}
use Rattle.rule_text.specs.RuleFrames.{frame_target}
use Rattle.se_search.proofs.RowTexts.{none_given, others_all, others_end, others_next}
use Rattle.se_search.proofs.row_lines.push_others.Goals as goal

pub returns-in_default : goal.returns-in_default
returns-in_default c =
    others_end (λ target. c.args.between.now ++ frame_target c.args.frame.now target) c.others.count c.args.most c.args.targets.now c.others.targets c.next.new.self c.args.buffer.now.items c.others.buffer.items
    (omega arith) c.others.invariant (none_given c.others.targets c.next.new.self c.next.result c.next.ensures.steps c.in_default.not-Some)

pub others-preserved : goal.others-preserved
others-preserved c =
    others_next c.args.between.now (frame_target c.args.frame.now) c.others.count c.in-Some.target c.args.targets.now c.others.targets c.next.new.self c.args.buffer.now.items c.others.buffer.items
    c.extend_from_slice.new.self.items c.push_target.new.buffer.items c.others.invariant c.in-Some.ensures.steps c.in_ok-extend_from_slice.ensures.items c.in_ok-push_target.ensures

pub returns : goal.returns
returns c =
    others_all (λ target. c.args.between.now ++ frame_target c.args.frame.now target) c.others.count c.args.most c.args.targets.now c.others.targets c.args.buffer.now.items c.others.buffer.items (omega arith) c.others.invariant
