-- A tree without its file-name transitions.
use Rattle.std.specs.Prelude.{[]}
use Rattle.pol_tree.specs.declared.Tree.{Tree}

abbrev pub bare : Tree → Tree
bare tree = record tree { nametrans = []; namegroup = [] }
