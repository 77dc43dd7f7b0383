use Rattle.pol_symtab.proofs.TableLaws.{table_again, table_spelled, table_unplaced}
use Rattle.pol_symtab.proofs.laws.tables_have_laws.Goals as goal

pub returns-clause-again : goal.returns-clause-again
returns-clause-again g c = λ start each. table_again g.K.ReadAfter.reads g.K.ReadAfter.after start g.K.SymbolKind.spelling g.K.SymbolKind.fits each

pub returns-clause-spelled : goal.returns-clause-spelled
returns-clause-spelled g c = λ start each. table_spelled g.K.ReadAfter.reads g.K.ReadAfter.after start g.K.SymbolKind.spelling g.K.SymbolKind.fits each

pub returns-clause-unplaced : goal.returns-clause-unplaced
returns-clause-unplaced g c = λ start bytes place. table_unplaced g.K.ReadAfter.reads g.K.ReadAfter.after start bytes place
