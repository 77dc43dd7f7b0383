use Rattle.std.proofs.Common.{◌≡◌, codes, length}
use Rattle.std.specs.List.{list_any}
use Rattle.std.specs.Str.{bytes_eq}
use Rattle.text_rows.specs.TextLines.{fields_in}
use Rattle.se_checker.proofs.known.has_true.Given as goal

abbrev pub invariant-loop-word : goal.invariant-loop-word
invariant-loop-word l = list_any (λ word. bytes_eq word (codes "true")) (fields_in l.rest) ≡ list_any (λ word. bytes_eq word (codes "true")) (fields_in l.text)

abbrev pub decreases-loop-word : goal.decreases-loop-word
decreases-loop-word l = length (fields_in l.rest)
