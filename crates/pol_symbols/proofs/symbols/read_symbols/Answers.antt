use Rattle.std.proofs.lemmas.Result.{err_from_is_err_and}
use Rattle.pol_cursor.specs.Outcome.{done}
use Rattle.pol_symbols.specs.declared.symbols.RuleTables.{RuleTables}
use Rattle.pol_symbols.specs.declared.symbols.OtherTables.{OtherTables}
use Rattle.pol_symbols.specs.PolicySymbols.{rule_tables_at, other_tables_at, symbols_at}
use Rattle.pol_symbols.proofs.TableSequences.{fails_second}
use Rattle.pol_symbols.proofs.symbols.read_symbols.Goals as goal

pub returns-in_err-others : goal.returns-in_err-others
unfolding symbols_at
returns-in_err-others c =
    let p = err_from_is_err_and c.from_residual-in_err-others.result c.from_residual-in_err-others.ensures.1 in
    rw (p.1, p.2) (fails_second (rule_tables_at c.args.version) other_tables_at
    (λ (first : RuleTables) (others : OtherTables). done (record { commons = first.commons; classes = first.classes; roles = first.roles; types = first.types; users = others.users; booleans = others.booleans; levels = others.levels; categories = others.categories }))
    c.args.c.now c.read_rule_tables.new.c c.in_ok-first.first c.in_err-others.field-0.0 c.in_ok-first.ensures c.in_err-others.ensures)
