use Rattle.std.proofs.Common.{rules}
use Rattle.std.proofs.lemmas.Fn.{always_returns_same}
use Rattle.info_symbols.proofs.ranked_types.sort_by_rank.Goals as goal

pub returns-clause-rise : goal.returns-clause-rise
returns-clause-rise c = c.sort_unstable_by_key.ensures.sorted (λ t. t.rank) (always_returns_same _ _ _ (λ a r q k. search rules))
