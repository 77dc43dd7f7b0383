use Rattle.std.proofs.lemmas.Result.{err_from_is_err_and}
use Rattle.pol_cursor.specs.declared.ReadError.TheVariants as errors
use Rattle.pol_file.proofs.Sequences.{fails_in_rules, fails_in_labels, fails_at_end}
use Rattle.pol_file.proofs.reading.read_parts.Goals as goal

pub returns-in_err-rules : goal.returns-in_err-rules
returns-in_err-rules c =
    let p = err_from_is_err_and c.from_residual-in_err-rules.result c.from_residual-in_err-rules.ensures.1 in
    rw (p.1, p.2) (fails_in_rules c.in_ok-front.front c.in_ok-symbols.symbols c.in_err-rules.field-0.0 c.args.c.now c.read_front.new.c c.read_symbols.new.c c.in_ok-front.ensures (rw c.version-version.ensures at c.in_ok-symbols.ensures)
    (rw c.version-version.ensures at c.in_err-rules.ensures))

pub returns-in_err-labels : goal.returns-in_err-labels
returns-in_err-labels c =
    let p = err_from_is_err_and c.from_residual-in_err-labels.result c.from_residual-in_err-labels.ensures.1 in
    rw (p.1, p.2) (fails_in_labels c.in_ok-front.front c.in_ok-symbols.symbols c.in_err-labels.field-0.0 c.args.c.now c.read_front.new.c c.read_symbols.new.c c.in_ok-front.ensures (rw c.version-version.ensures at c.in_ok-symbols.ensures)
    c.in_ok-rules.rules c.read_rule_lists.new.c (rw c.version-version.ensures at c.in_ok-rules.ensures) (rw (c.version-version.ensures, c.prims.ensures) at c.in_err-labels.ensures))

pub returns-in_err-end : goal.returns-in_err-end
returns-in_err-end c =
    let p = err_from_is_err_and c.from_residual-in_err-end.result c.from_residual-in_err-end.ensures.1 in
    rw (p.1, p.2) (fails_at_end c.in_ok-front.front c.in_ok-symbols.symbols (errors.Fault c.in_err-end.field-0.0) c.args.c.now c.read_front.new.c c.read_symbols.new.c c.in_ok-front.ensures (rw c.version-version.ensures at c.in_ok-symbols.ensures)
    c.in_ok-rules.rules c.read_rule_lists.new.c (rw c.version-version.ensures at c.in_ok-rules.ensures)
    c.in_ok-labels.labels c.read_label_lists.new.c (rw (c.version-version.ensures, c.prims.ensures) at c.in_ok-labels.ensures) c.in_err-end.ensures)
