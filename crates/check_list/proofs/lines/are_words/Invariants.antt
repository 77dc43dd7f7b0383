use Rattle.std.proofs.Common.{◌≡◌, length}
use Rattle.std.specs.List.{list_all}
use Rattle.text_rows.specs.TextLines.{fields_in, is_word}
use Rattle.check_list.proofs.lines.are_words.Given as goal

abbrev pub invariant-loop-field : goal.invariant-loop-field
invariant-loop-field l = list_all is_word (fields_in l.rest) ≡ list_all is_word (fields_in l.text)

abbrev pub decreases-loop-field : goal.decreases-loop-field
decreases-loop-field l = length (fields_in l.rest)
