use Rattle.std.proofs.Common.{inl, sym, subst, Some, None}
use Rattle.pol_bitmap.specs.Nodes.{bits_of}
use Rattle.set_products.specs.Members.{product_at}
use Rattle.set_products.specs.Standing.{StandsAt}
use Rattle.set_products.proofs.Products.{along, step_target, last_target}
use Rattle.set_products.proofs.places.Places.after.Goals as goal

pub returns-in-Some : goal.returns-in-Some
returns-in-Some c k h = inl (step_target c.args.self.now c.args.at k c.in-Some.target h
    (along (bits_of c.targets.result.now) (product_at c.args.self.now c.args.at.entry).targets c.args.at.target (Some c.in-Some.target) c.targets.ensures.bits c.in-Some.ensures h.j h.target))

pub returns-in-None : goal.returns-in-None
returns-in-None c k h = subst (StandsAt c.args.self.now c.after_source.result)
    (sym (last_target c.args.self.now c.args.at k h (along (bits_of c.targets.result.now) (product_at c.args.self.now c.args.at.entry).targets c.args.at.target None c.targets.ensures.bits c.in-None.ensures h.j h.target)))
    (c.after_source.ensures h.i h.source)
