use Rattle.std.proofs.Common.{ℕ, List, ap, ◌∙◌, arith}
use Rattle.value_groups.specs.Inner.Marking.{MarkedValues}
use Rattle.value_groups.specs.Inner.Dense.{values_in}
use Rattle.value_groups.proofs.Words.{dense_none, no_values}
use Rattle.value_groups.proofs.dense_set.DenseSet.new.Goals as goal

pub invariant_of-result : goal.invariant_of-result
invariant_of-result c = rw c.in_ok-words.ensures (dense_none c.args.count c.div_ceil.result c.requires (omega (arith, c.div_ceil.ensures)))

pub returns : goal.returns
returns c =
    let seen : List ℕ → MarkedValues = λ values. record { count = c.args.count; values = values } in
    ap seen (ap (values_in c.args.count) c.in_ok-words.ensures ∙ no_values c.args.count c.div_ceil.result)
