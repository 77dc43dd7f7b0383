use Rattle.std.proofs.lemmas.Result.{err_from_is_err_and}
use Rattle.pol_classes.proofs.ClassForms.{class_table_alike, with_type_sets, without_type_sets}
use Rattle.pol_classes.proofs.class_table.read_class_table.Goals as goal

pub returns-in_err-table-clause-exact : goal.returns-in_err-table-clause-exact
returns-in_err-table-clause-exact c =
    let p = err_from_is_err_and c.from_residual.result c.from_residual.ensures.1 in
    rw (p.1, p.2, class_table_alike c.args.version 29 (with_type_sets c.args.version c.if-version-ge29.true) c.args.commons) c.in_err-table.ensures.exact

pub returns-in_err-table-2-clause-exact : goal.returns-in_err-table-2-clause-exact
returns-in_err-table-2-clause-exact c =
    let p = err_from_is_err_and c.from_residual-in_err-table-2.result c.from_residual-in_err-table-2.ensures.1 in
    rw (p.1, p.2, class_table_alike c.args.version 28 (without_type_sets c.args.version c.if-version-ge29.false) c.args.commons) c.in_err-table-2.ensures.exact

pub returns-in_ok-table-clause-exact : goal.returns-in_ok-table-clause-exact
returns-in_ok-table-clause-exact c = rw (class_table_alike c.args.version 29 (with_type_sets c.args.version c.if-version-ge29.true) c.args.commons) c.in_ok-table.ensures.exact

pub returns-in_ok-table-2-clause-exact : goal.returns-in_ok-table-2-clause-exact
returns-in_ok-table-2-clause-exact c = rw (class_table_alike c.args.version 28 (without_type_sets c.args.version c.if-version-ge29.false) c.args.commons) c.in_ok-table-2.ensures.exact
