use Rattle.std.proofs.Common.{◌∙◌, ap}
use Rattle.std.proofs.lemmas.Result.{err_from_is_err_and}
use Rattle.pol_classes.specs.declared.class_kind.ClassContext.{ClassContext}
use Rattle.pol_classes.specs.ClassTables.{class_table_at, class_under, after_class, class_start}
use Rattle.pol_classes.proofs.ClassTableParts.{table_from_records, commons_stay}
use Rattle.pol_classes.proofs.class_table.read_classes.Goals as goal

pub returns-in_err-table-clause-exact : goal.returns-in_err-table-clause-exact
unfolding class_table_at
returns-in_err-table-clause-exact g c =
    let p = err_from_is_err_and c.from_residual-in_err-table.result c.from_residual-in_err-table.ensures.1 in
    let whole = table_from_records (class_under g.row.VERSION) after_class (class_start c.args.commons) c.in_ok-head.head c.args.c.now c.read_table_head.new.c c.in_ok-head.ensures.exact.0 c.in_ok-head.ensures.exact.1 in
    rw (p.1, p.2, whole) (rw c.new.ensures at c.in_err-table.ensures.exact)

pub returns-clause-exact : goal.returns-clause-exact
unfolding class_table_at
returns-clause-exact g c =
    let whole = table_from_records (class_under g.row.VERSION) after_class (class_start c.args.commons) c.in_ok-head.head c.args.c.now c.read_table_head.new.c c.in_ok-head.ensures.exact.0 c.in_ok-head.ensures.exact.1 in
    let read = rw c.new.ensures at c.in_ok-table.ensures.exact in
    (whole ∙ read.0, read.1 ∙ c.in_ok-head.ensures.exact.1)

pub returns-clause-commons : goal.returns-clause-commons
returns-clause-commons g c = ap (λ (context : ClassContext). context.commons) c.in_ok-table.ensures.after ∙ commons_stay _ c.in_ok-table.table.records
