use Rattle.std.proofs.Common.{List, ℕ, subst, length}
use Rattle.pol_bitmap.specs.Nodes.{bits_of}
use Rattle.pol_bitmap.specs.Sets.{IsDifference}
use Rattle.walk_enum.proofs.Spreading.{fits_difference, spreads_known, found_still, found_more}
use Rattle.walk_enum.proofs.spread.spread.Goals as goal
use Rattle.walk_enum.proofs.spread.spread.Goals.{then-count-gt-LOOKED_AT+in_ok-known, else-count-gt-LOOKED_AT}

pub spread_each-requires-2-clause-range : goal.spread_each-requires-2-clause-range
spread_each-requires-2-clause-range c =
    let others = bits_of c.in_ok-others.others in
    let differ : IsDifference c.args.found.now (bits_of c.args.known.now) others = subst (λ (l : List ℕ). IsDifference l (bits_of c.args.known.now) others) c.as_set-2.ensures.bits c.in_ok-others.ensures.bits in
    fits_difference c.args.found.now (bits_of c.args.known.now) others (length c.args.depths.now.items) differ c.requires.range

pub returns-clause-spreads : goal.returns-clause-spreads
returns-clause-spreads c =
    let known = bits_of c.args.known.now in
    let others = bits_of c.in_ok-others.others in
    let differ : IsDifference c.args.found.now known others = subst (λ (l : List ℕ). IsDifference l known others) c.as_set-2.ensures.bits c.in_ok-others.ensures.bits in
    spreads_known c.args.depths.now.items c.spread_each-2.new.depths.items c.args.queue.now.items c.spread_each-2.new.queue.items c.args.found.now known others c.args.depth c.requires.known differ c.in_ok-spread_each.ensures

pub returns-clause-known : goal.returns-clause-known
returns-clause-known c =
    let old = c.args.depths.now.items in
    let now = c.spread_each-2.new.depths.items in
    let queue_old = c.args.queue.now.items in
    let queue = c.spread_each-2.new.queue.items in
    let known = bits_of c.args.known.now in
    let others = bits_of c.in_ok-others.others in
    elim c.if-count-gt-LOOKED_AT.branch [
      | then-count-gt-LOOKED_AT+in_ok-known w ↦ rw w.known-is (found_more old now queue_old queue others known (bits_of w.in_ok-known.field-0) c.args.depth c.requires.known w.in_ok-known.ensures.bits c.in_ok-spread_each.ensures)
      | else-count-gt-LOOKED_AT w ↦ rw w.known-is (found_still old now queue_old queue others known c.args.depth c.requires.known c.in_ok-spread_each.ensures)
    ]
