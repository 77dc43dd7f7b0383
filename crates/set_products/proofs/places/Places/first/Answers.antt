use Rattle.std.proofs.Common.{subst}
use Rattle.set_products.specs.Standing.{StandsAt}
use Rattle.set_products.proofs.Products.{from_start_none}
use Rattle.set_products.proofs.places.Places.first.Goals as goal

pub returns : goal.returns
returns c = subst (StandsAt c.args.self.now c.past.result) (from_start_none c.args.self.now) c.past.ensures
