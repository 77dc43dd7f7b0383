use Rattle.std.proofs.Common.{subst}
use Rattle.set_products.specs.Standing.{StandsAt}
use Rattle.set_products.proofs.Products.{from_start}
use Rattle.set_products.proofs.places.Places.skip.Goals as goal

pub returns : goal.returns
returns c = subst (StandsAt c.args.self.now c.past.result) (from_start c.args.self.now c.args.n) c.past.ensures
