use Rattle.std.proofs.Common.{[], arith}
use Rattle.pol_make.specs.MadeSymbols.{made_category}
use Rattle.pol_make.proofs.RangeLists.{pushed}
use Rattle.pol_make.proofs.make_symbols.make_categories.Goals as goal

pub loop-number-preserved : goal.loop-number-preserved
loop-number-preserved c =
    rw (c.in_ok-push.ensures.items, c.in_ok-make_category.ensures) (pushed made_category [] c.loop-number.categories.items 0 c.loop-number.number c.loop-number.number (omega arith) c.loop-number.invariant)
