use Rattle.std.proofs.Common.{◌∙◌}
use Rattle.set_products.specs.Members.{product_of}
use Rattle.set_products.proofs.Products.{size_is}
use Rattle.set_products.proofs.places.size_of.Goals as goal

pub returns-clause-size : goal.returns-clause-size
returns-clause-size c = size_is (product_of c.args.sets.now c.args.entry) c.from.result c.from-2.result (c.from.ensures ∙ c.count_of-sources.ensures.bits) (c.from-2.ensures ∙ c.count_of-targets.ensures.bits)
