use Rattle.std.proofs.Common.{rules}
use Rattle.std.proofs.lemmas.Fn.{always_returns_same}
use Rattle.std.proofs.lemmas.Result.{on_ok_weaker}
use Rattle.dom_trans.specs.Inner.Targets.{default_set_by}
use Rattle.dom_trans.proofs.dom_rules.DomRules.sort_by_default.Goals as goal

pub returns-clause-rise : goal.returns-clause-rise
returns-clause-rise c = on_ok_weaker c.sort_by_cached_key.result (λ sorted. sorted (default_set_by c.args.self.now.policy) (always_returns_same _ _ _ (λ a r q k. search rules))) c.sort_by_cached_key.ensures.sorted
