use Rattle.std.proofs.Common.{List, ℕ, ap, sym, ◌∙◌, Some, slice_get}
use Rattle.set_products.proofs.Rising.{nth_is, nth_there}
use Rattle.set_products.proofs.found.nth_bit.Goals as goal

pub unreachable-requires : goal.unreachable-requires
unreachable-requires c = nth_there c.args.set.now c.bits.result c.nth.new.self c.args.n c.bits.ensures c.requires c.in_default.ensures.ran

pub returns : goal.returns
returns c = sym (nth_is c.bits.result c.nth.new.self c.args.n (Some c.in-Some.bit) c.in-Some.ensures.ran ∙ ap (λ (xs : List ℕ). slice_get xs c.args.n) c.bits.ensures)
