use Rattle.std.proofs.Common.{◌++◌}
use Rattle.rule_text.specs.RuleFrames.{frame_target}
use Rattle.se_search.proofs.RowTexts.{OthersPushed}
use Rattle.se_search.proofs.row_lines.push_others.Given as goal

abbrev pub invariant-others : goal.invariant-others
invariant-others l = OthersPushed (λ target. l.between ++ frame_target l.frame target) l.count l.initial.targets l.targets l.initial.buffer.items l.buffer.items
