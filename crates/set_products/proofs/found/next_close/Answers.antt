use Rattle.std.proofs.Common.{ℕ, List, ◌≡◌, ◌∙◌, ◌<◌, ◌/◌, ◌-◌, ◌%◌, ◌^◌, Some, ap, sym, arith, length, get_or}
use Rattle.std.proofs.lemmas.Option.{slice_get-get_or}
use Rattle.pol_bitmap.specs.declared.Node.{Node}
use Rattle.set_products.proofs.Rising.{StandsIn, close_fits, close_is}
use Rattle.set_products.proofs.found.next_close.Goals as goal

stands : (nodes : List Node) (bit i : ℕ) (node : Node) → i < length nodes → node ≡ get_or nodes i node → node.start ≡ bit - bit % 64 → 0 < node.map / 2 ^ (bit % 64) → StandsIn nodes bit i node
stands nodes bit i node within is start left = record { there = slice_get-get_or nodes i node within ∙ ap (λ (n : Node). Some n) (sym is); start = start; left = left }

pub overflow_add-result : goal.overflow_add-result
overflow_add-result c =
    let fits = close_fits c.args.nodes.now c.args.bit (c.args.bit / 64) c.in-Some.node.now c.requires
    (stands c.args.nodes.now c.args.bit (c.args.bit / 64) c.in-Some.node.now c.in-Some.ensures.lookup.3.0 c.in-Some.ensures.lookup.1 c.if-node-bit.false (omega (arith, c.if-left-eq0.false))) in
    omega (arith, fits)

pub returns : goal.returns
returns c = close_is c.args.nodes.now c.args.bit (c.args.bit / 64) c.in-Some.node.now c.requires
    (stands c.args.nodes.now c.args.bit (c.args.bit / 64) c.in-Some.node.now c.in-Some.ensures.lookup.3.0 c.in-Some.ensures.lookup.1 c.if-node-bit.false (omega (arith, c.if-left-eq0.false)))
