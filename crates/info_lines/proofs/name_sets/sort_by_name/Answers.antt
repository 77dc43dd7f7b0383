use Rattle.std.proofs.Common.{rules}
use Rattle.std.proofs.lemmas.Fn.{always_returns_same}
use Rattle.pol_symbols.specs.PolicySymbols.{rank_in}
use Rattle.info_lines.proofs.name_sets.sort_by_name.Goals as goal

pub returns-clause-rise : goal.returns-clause-rise
returns-clause-rise c = c.sort_unstable_by_key.ensures.sorted (rank_in c.args.symbols.now c.args.table) (always_returns_same _ _ _ (λ a r q k. search rules))
