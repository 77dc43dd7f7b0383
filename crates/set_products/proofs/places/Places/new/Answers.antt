use Rattle.set_products.proofs.Products.{sums_none, sums_more, sums_all}
use Rattle.set_products.proofs.places.Places.new.Goals as goal

pub loop-entry-init : goal.loop-entry-init
loop-entry-init c = sums_none c.args.entries.now c.args.sets.now

pub loop-entry-preserved : goal.loop-entry-preserved
loop-entry-preserved c =
    let size = c.size_of-count.ensures in
    sums_more c.args.entries.now c.args.sets.now c.loop-entry.entry-index c.loop-entry.count c.size_of-count.result _ c.loop-entry-test.true size.size size.bound c.loop-entry.invariant

pub invariant_of-result : goal.invariant_of-result
invariant_of-result c = (c.requires, sums_all c.args.entries.now c.args.sets.now c.loop-entry.entry-index c.loop-entry.count c.loop-entry-test.false c.loop-entry.invariant)
