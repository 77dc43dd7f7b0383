use Rattle.std.proofs.Common.{sym, false}
use Rattle.std.proofs.lemmas.List.{take_all}
use Rattle.std.proofs.lemmas.Bool.{le-ltb}
use Rattle.pol_bitmap.proofs.BitLists.{tells_bit}
use Rattle.pol_bitmap.proofs.SetPlaces.{has_at_place, not_lower}
use Rattle.pol_bitmap.proofs.view.BitmapView.has.Goals as goal

pub returns-then-place-node_count : goal.returns-then-place-node_count
returns-then-place-node_count c =
    let h = c.place_of-place.ensures in
    has_at_place c.args.bit c.args.self.now c.place_of-place.result c.node.result h.rising c.node.ensures.is h.before h.after c.has_bit_of.result c.has_bit_of.ensures

pub returns-else-place-node_count : goal.returns-else-place-node_count
returns-else-place-node_count c =
    let place = c.place_of-place.result in
    let all = take_all place c.args.self.now (rw c.node_count.ensures.all at c.if-place-node_count.false) in
    rw (le-ltb place _ c.if-place-node_count.false) (tells_bit false c.args.self.now c.args.bit (sym (not_lower c.args.bit c.args.self.now (rw all at c.place_of-place.ensures.before))))
