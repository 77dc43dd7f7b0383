-- A tree at another version, with other file-name transitions.
use Rattle.std.proofs.Common.{ℕ, List}
use Rattle.pol_trans.specs.declared.NameTransRec.{NameTransRec}
use Rattle.pol_trans.specs.declared.NameGroupRec.{NameGroupRec}
use Rattle.pol_tree.specs.declared.Tree.{Tree}
use Rattle.pol_versions.specs.Conversion.{tree_at}

abbrev pub moved_tree : ℕ → Tree → List NameTransRec → List NameGroupRec → Tree
moved_tree version tree entries groups = record (tree_at version tree) { nametrans = entries; namegroup = groups }
