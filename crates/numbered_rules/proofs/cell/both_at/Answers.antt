use Rattle.numbered_rules.specs.Inner.Cells.{both_labelled}
use Rattle.numbered_rules.proofs.cell.both_at.Goals as goal

pub returns : goal.returns
unfolding both_labelled
returns c = λ i. record { first = c.in_ok-value.ensures i; second = c.in_ok-value-2.ensures i }
