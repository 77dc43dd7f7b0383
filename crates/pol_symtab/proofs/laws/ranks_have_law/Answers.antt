use Rattle.pol_symtab.proofs.RankLaw.{ranks_order}
use Rattle.pol_symtab.proofs.laws.ranks_have_law.Goals as goal

pub returns : goal.returns
returns g c = λ records. ranks_order g.K.SymbolKind.name_of g.K.SymbolKind.is_primary g.K.SymbolKind.value_of records
