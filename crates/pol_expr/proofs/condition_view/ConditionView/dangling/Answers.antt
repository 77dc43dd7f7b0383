use Rattle.std.proofs.Common.{◌+◌, ◌∙◌, sym, arith}
use Rattle.pol_expr.proofs.References.{none_here, found_here, none_left}
use Rattle.pol_expr.proofs.condition_view.ConditionView.dangling.Goals as goal

pub loop-i-preserved : goal.loop-i-preserved
loop-i-preserved g c =
    let self = c.args.self.now in
    c.loop-i.invariant ∙ none_here (g.N.Names.named c.args.names.now) (self.place + 8) self.value.items c.loop-i.i c.item_place.result c.item_place.ensures.exact c.item.result c.item.ensures (sym c.item_dangling.ensures ∙ c.in-None.is)

pub returns : goal.returns
returns g c =
    let self = c.args.self.now in
    sym (c.loop-i.invariant ∙ none_left (g.N.Names.named c.args.names.now) _ self.value.items c.loop-i.i (omega arith))

pub returns-in-Some : goal.returns-in-Some
returns-in-Some g c =
    let self = c.args.self.now in
    sym (c.loop-i.invariant ∙ found_here (g.N.Names.named c.args.names.now) (self.place + 8) self.value.items c.loop-i.i c.item_place.result c.item_place.ensures.exact c.item.result c.in-Some.fault c.item.ensures (sym c.item_dangling.ensures ∙ c.in-Some.is))
