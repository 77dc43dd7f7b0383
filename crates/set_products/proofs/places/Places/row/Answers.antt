use Rattle.std.proofs.Common.{arith}
use Rattle.pol_bitmap.specs.Nodes.{bits_of}
use Rattle.set_products.specs.Members.{product_at}
use Rattle.set_products.proofs.Products.{end_at, rest_given, row_given, row_targets, some_at}
use Rattle.set_products.proofs.places.Places.row.Goals as goal

pub targets-requires : goal.targets-requires
targets-requires c = omega (arith, c.if-at-self.false, end_at c.self.inside.entries.now c.self.inside.sets.now c.args.self.now c.self.view_is)

pub after_source-requires-clause-within : goal.after_source-requires-clause-within
after_source-requires-clause-within c = omega (arith, c.if-at-self.false, end_at c.self.inside.entries.now c.self.inside.sets.now c.args.self.now c.self.view_is)

pub after_source-requires-clause-target : goal.after_source-requires-clause-target
after_source-requires-clause-target c = row_targets c.args.self.now c.args.at (some_at c.self.inside.entries.now c.self.inside.sets.now c.args.self.now c.args.at c.self.view_is c.if-at-self.false c.requires)

pub returns-clause-gives : goal.returns-clause-gives
returns-clause-gives c k h = row_given c.self.inside.entries.now c.self.inside.sets.now c.args.self.now c.args.at c.after_source.result k _ (bits_of c.targets.result.now) c.bits_from.result
    c.self.view_is c.if-at-self.false c.targets.ensures.bits c.bits_from.ensures c.after_source.ensures h

pub returns-clause-whole : goal.returns-clause-whole
returns-clause-whole c = rest_given (bits_of c.targets.result.now) (product_at c.args.self.now c.args.at.entry).targets c.bits_from.result c.args.at.target c.targets.ensures.bits c.bits_from.ensures
