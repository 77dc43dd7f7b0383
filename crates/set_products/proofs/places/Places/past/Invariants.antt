use Rattle.set_products.proofs.Products.{Passes}
use Rattle.set_products.proofs.places.Places.past.Given as goal

-- Entries up to this one are passed, each by its count.
abbrev pub invariant-loop-entry : goal.invariant-loop-entry
invariant-loop-entry l = Passes l.self l.fn.from l.fn.n l.entry l.left
