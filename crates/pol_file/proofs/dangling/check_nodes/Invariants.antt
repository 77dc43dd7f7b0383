use Rattle.std.proofs.Common.{◌≡◌, drop}
use Rattle.pol_cursor.specs.References.{dangling_of}
use Rattle.pol_conditionals.specs.CondNodeRecord.{condnode_references}
use Rattle.pol_cursor.specs.References.{references_in}
use Rattle.pol_file.proofs.dangling.check_nodes.Given as goal

-- the references of the nodes before are declared
abbrev pub invariant-loop-i : goal.invariant-loop-i
invariant-loop-i g l =
    let named = g.N.Names.named l.names in
    dangling_of named (references_in condnode_references l.nodes) ≡ dangling_of named (references_in condnode_references (drop l.i l.nodes))
