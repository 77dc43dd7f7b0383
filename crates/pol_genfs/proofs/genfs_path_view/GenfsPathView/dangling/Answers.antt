use Rattle.std.proofs.Common.{◌+◌, sym}
use Rattle.pol_mls.specs.ContextRecord.{context_references}
use Rattle.pol_genfs.specs.GenfsRecord.{class_place, class_references}
use Rattle.pol_cursor.proofs.DanglingLists.{undeclared_first}
use Rattle.pol_genfs.proofs.genfs_path_view.GenfsPathView.dangling.Goals as goal

pub returns-in-Some : goal.returns-in-Some
returns-in-Some g c =
    let entry = c.args.self.now in
    sym (undeclared_first (g.N.Names.named c.args.names.now) (class_references (class_place entry) entry.value.class) (context_references (record { place = class_place entry + 4; value = entry.value.context })) c.in-Some.fault (sym c.in-Some.ensures))
