use Rattle.std.proofs.Common.{◌≡◌, drop}
use Rattle.pol_cursor.specs.References.{dangling_of}
use Rattle.pol_cursor.specs.References.{references_in}
use Rattle.pol_cursor.proofs.referring.check_records.Given as goal

-- the references of the records before are declared
abbrev pub invariant-loop-i : goal.invariant-loop-i
invariant-loop-i g l =
    let named = g.N.Names.named l.names in
    dangling_of named (references_in g.K.Referring.references l.records) ≡ dangling_of named (references_in g.K.Referring.references (drop l.i l.records))
