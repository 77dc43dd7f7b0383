use Rattle.std.proofs.Common.{◌≡◌, drop, map}
use Rattle.se_words.specs.Options.{option_head, row_view}
use Rattle.se_words.specs.Word.{text_of}
use Rattle.se_words.proofs.cut.option_head.Given as goal

abbrev pub invariant-loop-row : goal.invariant-loop-row
invariant-loop-row l =
    option_head (map row_view (drop l.row-index l.rows)) l.mode l.number l.text (map text_of l.after)
    ≡ option_head (map row_view l.rows) l.mode l.number l.text (map text_of l.after)
