use Rattle.std.proofs.Common.{ℕ, ◌+◌, List, arith, subst, sym, take}
use Rattle.set_products.specs.Inner.SetCounts.{AreCounts}
use Rattle.set_products.proofs.Counted.{counted_none, counted_more, counted_all}
use Rattle.set_products.proofs.counted_sets.CountedSets.new.Goals as goal

pub loop-n-init : goal.loop-n-init
loop-n-init c = subst (λ (counts : List ℕ). AreCounts (take 0 c.args.pool) counts) (sym c.in_ok-counts.ensures.items) (counted_none c.args.pool)

pub loop-n-preserved : goal.loop-n-preserved
loop-n-preserved c =
    subst (λ (counts : List ℕ). AreCounts (take (c.loop-n.n + 1) c.args.pool) counts) (sym c.in_ok-push.ensures.items)
    (counted_more c.args.pool c.loop-n.counts.items c.loop-n.n c.count.result c.get.result.now c.get.ensures c.count.ensures.form c.count.ensures.bits c.loop-n.invariant)

pub invariant_of-result : goal.invariant_of-result
invariant_of-result c = counted_all c.args.pool c.loop-n.counts.items c.loop-n.n (omega (arith, c.loop-n-test.false, c.len-n-end.ensures)) c.loop-n.invariant
