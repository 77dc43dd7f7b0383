use Rattle.std.proofs.Common.{arith, refl, subst, inl, inr}
use Rattle.set_products.specs.Standing.{IsAt}
use Rattle.set_products.proofs.Products.{size_at, end_at, passes_one, stops_in, stops_at_end}
use Rattle.set_products.proofs.places.Places.past.Goals as goal

pub loop-entry-init : goal.loop-entry-init
loop-entry-init c = refl

pub loop-entry-preserved : goal.loop-entry-preserved
loop-entry-preserved c =
    let s = size_at c.self.inside.entries.now c.self.inside.sets.now c.args.self.now c.loop-entry.entry c.size_of-size.result _ c.self.view_is c.loop-entry-test.true c.size_of-size.ensures.size in
    passes_one c.args.self.now c.args.from c.args.n c.loop-entry.entry c.loop-entry.left c.size_of-size.result s.0 s.1 (omega (arith, c.if-from-size.false, c.from.ensures)) c.loop-entry.invariant

pub returns-then-from-size : goal.returns-then-from-size
returns-then-from-size c =
    let s = size_at c.self.inside.entries.now c.self.inside.sets.now c.args.self.now c.loop-entry.entry c.size_of-size.result _ c.self.view_is c.loop-entry-test.true c.size_of-size.ensures.size in
    inl (subst (IsAt c.args.self.now c.place_in.result)
    (stops_in c.args.self.now c.args.from c.args.n c.loop-entry.entry c.loop-entry.left c.size_of-size.result s.0 s.1 (omega (arith, c.if-from-size.true, c.from.ensures)) c.loop-entry.invariant) c.place_in.ensures)

pub returns : goal.returns
returns c =
    let end = end_at c.self.inside.entries.now c.self.inside.sets.now c.args.self.now c.self.view_is in
    inr (record { past = end; number = stops_at_end c.args.self.now c.args.from c.args.n c.loop-entry.entry c.loop-entry.left (omega (arith, c.loop-entry-test.false, end)) c.loop-entry.invariant })
