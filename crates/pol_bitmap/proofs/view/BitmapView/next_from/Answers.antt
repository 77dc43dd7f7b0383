use Rattle.pol_bitmap.proofs.NodeBits.{least_at, none_more}
use Rattle.pol_bitmap.proofs.view.BitmapView.next_from.Goals as goal

pub returns-in-Some-clause-some : goal.returns-in-Some-clause-some
returns-in-Some-clause-some c =
    least_at 0 c.args.bit c.in-Some.found c.args.self.now c.loop-i.i c.node.result c.place_of-i.ensures.rising c.node.ensures.is c.loop-i.invariant c.in-Some.ensures.some

pub loop-i-preserved : goal.loop-i-preserved
loop-i-preserved c = none_more c.args.bit c.args.self.now c.loop-i.i c.node.result c.node.ensures.is c.loop-i.invariant c.in-None.ensures.none
