use Rattle.std.proofs.Common.{◌≡◌}
use Rattle.std.specs.List.{flat_map}
use Rattle.pol_cursor.specs.References.{dangling_of}
use Rattle.pol_genfs.specs.GenfsRecord.{path_references}
use Rattle.pol_genfs.proofs.genfs_view.dangling_path.Given as goal

-- the references before are declared
abbrev pub invariant-loop-path : goal.invariant-loop-path
invariant-loop-path g l = dangling_of (g.N.Names.named l.names) (flat_map path_references l.fn.run) ≡ dangling_of (g.N.Names.named l.names) (flat_map path_references l.path-iterator)
