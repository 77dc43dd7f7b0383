-- A set fits: it is spelled by more bytes than it has nodes.
use Rattle.std.proofs.Common.{◌≤◌, None, List, [], ◌∷◌, length, arith}
use Rattle.std.specs.List.{flat_map, AllByRecursion}
use Rattle.std.proofs.lemmas.List.{length-append}
use Rattle.std.proofs.lemmas.List.Concat.{flat_map-cons}
use Rattle.pol_cursor.proofs.Numbers.{length-bytes_of}
use Rattle.pol_bitmap.specs.declared.Node.{Node}
use Rattle.pol_bitmap.specs.Bitmap.{spell_node, spell_bitmap, NodeFits, BitmapFits}
use Rattle.pol_tree.specs.Inner.Fitting.{IsFitting}

node_count : (nodes : List Node) → length nodes ≤ length (flat_map spell_node nodes)
node_count [] = omega arith
node_count (n ∷ nodes) = simp (flat_map-cons, length-append) (omega (arith, length-bytes_of 4 n.start, node_count nodes))

pub set_fits : (nodes : List Node) → AllByRecursion NodeFits nodes → IsFitting (λ x. None) BitmapFits spell_bitmap nodes
set_fits nodes fits = record {
  some = simp length-append (omega (arith, length-bytes_of 4 64));
  fitting = λ right few.
      let each = simp length-append at few in
      record { count = omega (arith, node_count nodes, each); nodes = fits };
}
