use Rattle.std.proofs.Common.{get_or, false, sym}
use Rattle.std.proofs.lemmas.List.{take_all}
use Rattle.std.proofs.lemmas.Bool.{le-ltb}
use Rattle.std.proofs.lemmas.Option.{slice_get-get_or}
use Rattle.pol_bitmap.specs.declared.node.Node.{Node}
use Rattle.pol_bitmap.proofs.BitLists.{tells_bit}
use Rattle.pol_bitmap.proofs.SetPlaces.{has_at_place, not_lower}
use Rattle.pol_bitmap.proofs.set_search.has_of.Goals as goal

pub returns-then-place-nodes : goal.returns-then-place-nodes
returns-then-place-nodes c =
    let none : Node = record { start = 0; map = 0 } in
    let place = c.place_of-place.result in
    has_at_place c.args.bit c.args.nodes.now place (get_or c.args.nodes.now place none) c.requires.0 (slice_get-get_or c.args.nodes.now place none c.if-place-nodes.true) c.place_of-place.ensures.before c.place_of-place.ensures.after c.has_bit_of.result c.has_bit_of.ensures

pub returns-else-place-nodes : goal.returns-else-place-nodes
returns-else-place-nodes c =
    let place = c.place_of-place.result in
    let all = take_all place c.args.nodes.now c.if-place-nodes.false in
    rw (le-ltb place _ c.if-place-nodes.false) (tells_bit false c.args.nodes.now c.args.bit (sym (not_lower c.args.bit c.args.nodes.now (rw all at c.place_of-place.ensures.before))))
