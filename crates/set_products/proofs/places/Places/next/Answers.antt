use Rattle.set_products.proofs.Products.{some_at, gives}
use Rattle.set_products.proofs.places.Places.next.Goals as goal

pub after-requires : goal.after-requires
after-requires c = some_at c.self.inside.entries.now c.self.inside.sets.now c.args.self.now c.args.at c.self.view_is c.if-at-self.false c.requires

pub returns : goal.returns
returns c k h = gives c.self.inside.entries.now c.self.inside.sets.now c.args.self.now c.args.at c.after.result k _ c.self.view_is c.if-at-self.false c.after.ensures h
