use Rattle.std.proofs.Common.{◌≡◌, ◌++◌, Some}
use Rattle.std.proofs.lemmas.Result.{err_from_is_err_and}
use Rattle.pol_cursor.specs.References.{dangling_of}
use Rattle.pol_datums.specs.RoleRecord.{role_references}
use Rattle.pol_datums.specs.TypeRecord.{type_references}
use Rattle.pol_symbols.specs.PolicySymbols.{name_in}
use Rattle.pol_cursor.specs.References.{references_in}
use Rattle.pol_cursor.proofs.DanglingLists.{undeclared_first, undeclared_later}
use Rattle.pol_file.proofs.dangling.check_symbols.Goals as goal

pub returns-in_err-check_table-2 : goal.returns-in_err-check_table-2
returns-in_err-check_table-2 c =
    let p = err_from_is_err_and c.from_residual-in_err-check_table-2.result c.from_residual-in_err-check_table-2.ensures.1 in
    let symbols = c.args.symbols.now in
    let fault = c.in_err-check_table-2.field-0.0 in
    let roles = references_in role_references symbols.roles.records in
    let types = references_in type_references symbols.types.records in
    let first : dangling_of (name_in symbols) (roles ++ types) ≡ Some fault = undeclared_later (name_in symbols) roles types fault c.in_ok-check_table.ensures c.in_err-check_table-2.ensures in
    rw (p.1, p.2) (search (undeclared_first, first))
