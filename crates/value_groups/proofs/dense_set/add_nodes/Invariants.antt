use Rattle.std.proofs.Common.{◌≡◌, ◌||◌, ℕ, length, take}
use Rattle.pol_bitmap.specs.Nodes.{has_bit}
use Rattle.value_groups.specs.Inner.Dense.{word_has}
use Rattle.value_groups.proofs.dense_set.add_nodes.Given as goal

abbrev pub invariant-loop-node : goal.invariant-loop-node
invariant-loop-node l = (length l.words.items ≡ length l.initial.words.items) × ((value : ℕ) → word_has l.words.items value ≡ (word_has l.initial.words.items value || has_bit (take l.node-index l.nodes) value))
