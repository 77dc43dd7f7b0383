-- The lines of rules that are left.
use Rattle.std.specs.Prelude.{ℕ, List, length, map}
use Rattle.std.specs.List.{concat}
use Rattle.se_items.specs.Pieces.{Left}
use Rattle.se_search.specs.declared.rule_lines.RuleLines.{RuleLines}
use Rattle.se_search.specs.SearchAnswer.{rule_line}

abbrev pub lines_left : RuleLines → List (List ℕ)
lines_left lines = map (rule_line lines.texts) lines.rules.numbers

abbrev pub text_left : RuleLines → Left
text_left lines = record { text = concat (lines_left lines); pieces = length lines.rules.numbers }
