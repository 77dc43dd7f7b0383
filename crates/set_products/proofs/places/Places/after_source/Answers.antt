use Rattle.std.proofs.Common.{◌∙◌, inl, sym, ap, subst, Some, None, List, ℕ, slice_get}
use Rattle.pol_bitmap.specs.Nodes.{bits_of}
use Rattle.set_products.specs.Members.{product_at}
use Rattle.set_products.specs.Standing.{StandsAt}
use Rattle.set_products.proofs.Products.{along, step_source, last_source}
use Rattle.set_products.proofs.places.Places.after_source.Goals as goal

pub returns-in-Some : goal.returns-in-Some
returns-in-Some c i is = inl (step_source c.args.self.now c.args.entry i c.in-Some.source c.nth_bit.result c.requires.within
    (along (bits_of c.sources.result.now) (product_at c.args.self.now c.args.entry).sources c.args.source (Some c.in-Some.source) c.sources.ensures.bits c.in-Some.ensures i is)
    (ap (λ (xs : List ℕ). slice_get xs 0) (sym c.targets.ensures.bits) ∙ c.nth_bit.ensures))

pub returns-in-None : goal.returns-in-None
returns-in-None c i is = subst (StandsAt c.args.self.now c.past.result)
    (last_source c.args.self.now c.args.entry i c.args.source c.requires.within is
    (along (bits_of c.sources.result.now) (product_at c.args.self.now c.args.entry).sources c.args.source None c.sources.ensures.bits c.in-None.ensures i is))
    c.past.ensures
