use Rattle.std.proofs.Common.{◌∙◌, ◌++◌, ℕ, List, ap}
use Rattle.std.specs.Prelude.{codes, decimal}
use Rattle.info_summary.specs.SummaryLines.{summary_line}
use Rattle.se_info.specs.ListingText.{line_text}
use Rattle.se_make.proofs.making.singles_text.Goals as goal

pub returns : goal.returns
unfolding line_text summary_line
returns c =
    c.in_ok-extend_from_slice.ensures.items
    ∙ ap (λ (text : List ℕ). text ++ codes "\n")
    (c.in_ok-push_decimal.ensures ∙ ap (λ (text : List ℕ). text ++ decimal c.in_ok-count.count) c.in_ok-text.ensures.items ∙ ap (λ (n : ℕ). codes "Singles: " ++ decimal n) c.in_ok-count.ensures)
