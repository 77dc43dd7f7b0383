use Rattle.std.proofs.Common.{◌≡◌, ◌≤◌, length, drop}
use Rattle.std.specs.List.{flat_map}
use Rattle.std.specs.Ordering.{nat_cmp}
use Rattle.keyed_lists.specs.KeyOrder.{keys_in_order}
use Rattle.pol_bitmap.specs.Nodes.{bits_of}
use Rattle.pol_bitmap.specs.Sets.{IsSet}
use Rattle.numbered_rules.specs.Forms.{bits_at}
use Rattle.numbered_rules.proofs.sets.union_of.Given as goal

abbrev pub invariant-sets : goal.invariant-sets
invariant-sets l = (l.left ≤ length l.sets) × IsSet l.union × (bits_of l.union ≡ keys_in_order nat_cmp (flat_map (bits_at l.pool) (drop l.left l.sets)))

abbrev pub decreases-sets : goal.decreases-sets
decreases-sets l = l.left
