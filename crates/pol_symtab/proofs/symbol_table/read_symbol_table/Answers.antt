use Rattle.std.proofs.Common.{ℕ, refl, subst}
use Rattle.std.proofs.lemmas.Result.{err_from_is_err_and}
use Rattle.pol_symtab.proofs.FreshTables.{AreFresh, records_fresh, distinct_names, distinct_values}
use Rattle.pol_symtab.proofs.TableReading.{table_fails, table_got}
use Rattle.pol_symtab.proofs.symbol_table.read_symbol_table.Goals as goal

pub returns-in_err-records-clause-exact : goal.returns-in_err-records-clause-exact
returns-in_err-records-clause-exact g c =
    let p = err_from_is_err_and c.from_residual.result c.from_residual.ensures.1 in
    rw (p.1, p.2) (table_fails g.K.ReadAfter.reads g.K.ReadAfter.after c.args.head.nprim c.args.head.nel c.args.context c.args.c.now.bytes c.args.c.now.place c.in_err-records.field-0.0 c.in_err-records.ensures.exact)

pub index-requires : goal.index-requires
index-requires g c κs =
    let claims = g.K.Symbol.claims_of c.args.context in
    let fresh : AreFresh g.K.SymbolKind.name_of g.K.SymbolKind.is_primary g.K.SymbolKind.value_of c.args.head.nprim claims c.in_ok-records.records =
    subst (λ (n : ℕ). AreFresh g.K.SymbolKind.name_of g.K.SymbolKind.is_primary g.K.SymbolKind.value_of n claims c.in_ok-records.records) c.requires.nprim
    (records_fresh g.K.ReadAfter.reads g.K.ReadAfter.after g.K.SymbolKind.name_of g.K.SymbolKind.is_primary g.K.SymbolKind.value_of g.K.Symbol.nprim_of g.K.Symbol.claims_of c.symbol_laws.ensures.fresh c.symbol_laws.ensures.claimed
    c.args.head.nel c.args.context c.args.c.now.bytes c.args.c.now.place c.in_ok-records.records c.read_records_after.new.c.place c.in_ok-records.ensures.exact.0) in (
      (refl, tt),
      (
        distinct_names g.K.SymbolKind.name_of g.K.SymbolKind.is_primary g.K.SymbolKind.value_of c.args.head.nprim claims c.in_ok-records.records fresh,
        distinct_values g.K.SymbolKind.name_of g.K.SymbolKind.is_primary g.K.SymbolKind.value_of c.args.head.nprim claims c.in_ok-records.records fresh,
      ),
    )

pub returns-clause-exact : goal.returns-clause-exact
returns-clause-exact g c =
    rw c.in_ok-table.ensures (
      table_got g.K.ReadAfter.reads g.K.ReadAfter.after c.args.head.nprim c.args.head.nel c.args.context c.args.c.now.bytes c.args.c.now.place c.in_ok-records.records c.read_records_after.new.c.place c.in_ok-records.ensures.exact.0,
      c.in_ok-records.ensures.exact.1,
    )
