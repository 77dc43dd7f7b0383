use Rattle.set_products.proofs.Products.{Sums}
use Rattle.set_products.proofs.places.Places.new.Given as goal

-- The entries so far are counted.
abbrev pub invariant-loop-entry : goal.invariant-loop-entry
invariant-loop-entry l = Sums l.entries l.sets l.entry-index l.count
