use Rattle.std.proofs.Common.{List, ap, sym, ◌∙◌}
use Rattle.std.specs.List.{flat_map}
use Rattle.pol_cursor.specs.References.{Placed, dangling_of}
use Rattle.pol_genfs.specs.declared.genfs_rec.GenfsPathRec.{GenfsPathRec}
use Rattle.pol_genfs.specs.GenfsRecord.{path_references}
use Rattle.pol_cursor.proofs.DanglingLists.{undeclared_first}
use Rattle.pol_genfs.proofs.genfs_view.dangling_path.Goals as goal

pub returns-in-Some-dangling : goal.returns-in-Some-dangling
returns-in-Some-dangling g c =
    let named = g.N.Names.named c.args.names.now in
    let here = undeclared_first named (path_references c.in-Some.path) (flat_map path_references c.next.new.self) c.in-Some-dangling.fault (sym c.in-Some-dangling.ensures) in
    sym (c.loop-path.invariant ∙ ap (λ (paths : List (Placed GenfsPathRec)). dangling_of named (flat_map path_references paths)) c.in-Some.ensures.steps ∙ here)
