-- How many bytes the set of few bits takes.
use Rattle.std.proofs.Common.{ℕ, ◌+◌, ◌*◌, List, [], ◌∷◌, length, arith}
use Rattle.std.specs.List.{AllByRecursion}
use Rattle.set_nodes.specs.SetNodes.{set_of}
use Rattle.pol_bitmap.specs.declared.Node.{Node}
use Rattle.pol_bitmap.specs.Bitmap.{high_of, spell_node, spell_bitmap}
use Rattle.pol_moved.proofs.GrantedSets.{length-set_of}
use Rattle.pol_make.proofs.Lengths.{TakesMost, takes-number, ◌⊕◌, takes-less, takes-each}

twelve-each : (ns : List Node) → AllByRecursion (λ n. TakesMost 12 (spell_node n)) ns
twelve-each [] = tt
twelve-each (n ∷ ns) = (takes-number 4 n.start ⊕ takes-number 8 n.map, twelve-each ns)

-- twelve for each bit, and twelve before them
pub takes-set : (bits : List ℕ) → TakesMost (12 + length bits * 12) (spell_bitmap (set_of bits))
takes-set bits =
    let nodes = set_of bits in
    let each = takes-each spell_node 12 nodes (twelve-each nodes) in
    takes-less (takes-number 4 64 ⊕ takes-number 4 (high_of nodes) ⊕ takes-number 4 (length nodes) ⊕ each) (omega (arith, length-set_of bits))
