use Rattle.std.proofs.Common.{refl}
use Rattle.pol_bitmap.specs.Nodes.{bits_of}
use Rattle.set_products.specs.Members.{product_at}
use Rattle.set_products.proofs.Products.{room, placed_in}
use Rattle.set_products.proofs.places.Places.place_in.Goals as goal

pub nonzero_div-n : goal.nonzero_div-n
nonzero_div-n c = (room (product_at c.args.self.now c.args.entry) c.args.n c.width-width.result (bits_of c.sources.result.now) (product_at c.args.self.now c.args.entry).targets c.requires.more c.sources.ensures.bits refl c.width-width.ensures).0

pub nonzero_rem-n : goal.nonzero_rem-n
nonzero_rem-n c = (room (product_at c.args.self.now c.args.entry) c.args.n c.width-width.result (bits_of c.sources.result.now) (product_at c.args.self.now c.args.entry).targets c.requires.more c.sources.ensures.bits refl c.width-width.ensures).0

pub nth_bit-requires : goal.nth_bit-requires
nth_bit-requires c = (room (product_at c.args.self.now c.args.entry) c.args.n c.width-width.result (bits_of c.sources.result.now) (product_at c.args.self.now c.args.entry).targets c.requires.more c.sources.ensures.bits refl c.width-width.ensures).1

pub nth_bit-requires-2 : goal.nth_bit-requires-2
nth_bit-requires-2 c = (room (product_at c.args.self.now c.args.entry) c.args.n c.width-width.result (bits_of c.sources.result.now) (bits_of c.targets.result.now) c.requires.more c.sources.ensures.bits c.targets.ensures.bits c.width-width.ensures).2

pub returns : goal.returns
returns c = placed_in c.args.self.now c.args.entry c.args.n c.width-width.result c.nth_bit.result c.nth_bit-2.result (bits_of c.sources.result.now) (bits_of c.targets.result.now)
    c.requires.within c.requires.more c.sources.ensures.bits c.targets.ensures.bits c.width-width.ensures c.nth_bit.ensures c.nth_bit-2.ensures
