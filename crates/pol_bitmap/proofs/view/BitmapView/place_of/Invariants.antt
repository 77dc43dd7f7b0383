use Rattle.std.proofs.Common.{ℕ, ◌-◌, ◌<◌, ◌≤◌, length, get_or}
use Rattle.pol_bitmap.specs.declared.node.Node.{Node}
use Rattle.pol_bitmap.proofs.view.BitmapView.place_of.Given as goal

abbrev pub invariant-halves : goal.invariant-halves
invariant-halves l =
    (l.low ≤ l.high) × (l.high ≤ length l.self)
    × ((k : ℕ) (d : Node) → k < l.low → k < length l.self → (get_or l.self k d).start < l.start)
    × ((k : ℕ) (d : Node) → l.high ≤ k → k < length l.self → l.start ≤ (get_or l.self k d).start)

abbrev pub decreases-halves : goal.decreases-halves
decreases-halves l = l.high - l.low
