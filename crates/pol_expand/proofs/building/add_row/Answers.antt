use Rattle.std.proofs.Common.{List, ℕ, subst}
use Rattle.pol_bitmap.specs.Nodes.{bits_of}
use Rattle.pol_expand.proofs.Gains.{Gaining, gaining_start, gaining_next, gaining_end}
use Rattle.pol_expand.proofs.building.add_row.Goals as goal

pub loop-bit-init : goal.loop-bit-init
loop-bit-init c =
    rw (c.into_iter-bit-iterator.ensures.into_iter_gives, c.bits-bit-items.ensures)
    (gaining_start c.args.place (bits_of c.args.row.now) c.args.words.now.items)

pub loop-bit-preserved : goal.loop-bit-preserved
loop-bit-preserved c =
    gaining_next c.args.place (bits_of c.args.row.now) c.in-Some.bit c.next.new.self c.args.words.now.items c.loop-bit.words.items c.add_bit.new.words.items
    (subst (λ (left : List ℕ). Gaining c.args.place (bits_of c.args.row.now) left c.args.words.now.items c.loop-bit.words.items) c.in-Some.ensures.steps c.loop-bit.invariant)
    c.add_bit.ensures

pub returns : goal.returns
returns c =
    gaining_end c.args.place c.args.row.now c.args.words.now.items c.loop-bit.words.items
    (subst (λ (left : List ℕ). Gaining c.args.place (bits_of c.args.row.now) left c.args.words.now.items c.loop-bit.words.items) c.in-None.ensures.steps.0 c.loop-bit.invariant)
