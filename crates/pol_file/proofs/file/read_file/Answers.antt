use Rattle.std.proofs.lemmas.Result.{err_from_is_err_and}
use Rattle.pol_file.proofs.Acceptances.{refused_undeclared}
use Rattle.pol_file.proofs.file.read_file.Goals as goal

pub returns-in_err-check_references : goal.returns-in_err-check_references
returns-in_err-check_references c =
    let p = err_from_is_err_and c.from_residual-in_err-check_references.result c.from_residual-in_err-check_references.ensures.1 in
    rw (p.1, p.2) (refused_undeclared c.args.bytes.now c.in_ok-parts.parts c.read_parts.new.c.place c.in_err-check_references.field-0.0 (rw c.new.ensures at c.in_ok-parts.ensures.0) c.in_err-check_references.ensures)
