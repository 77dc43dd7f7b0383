use Rattle.std.proofs.Common.{◌≡◌, ◌∙◌, ℕ, List, map, subst}
use Rattle.std.specs.Prelude.{IfOk}
use Rattle.rule_singles.specs.FoundSingles.{ends_of_rule}
use Rattle.se_options.specs.SearchRequest.{search_view}
use Rattle.se_search.specs.SearchAnswer.{found_rules}
use Rattle.se_search.proofs.FoundRules.{few-found, found-are-rules}
use Rattle.se_search.proofs.search.single_rules.Goals as goal

pub of-requires-clause-rules : goal.of-requires-clause-rules
of-requires-clause-rules c =
    found-are-rules c.args.policy.now c.args.asks.now.criteria c.deref.result.now (c.deref.ensures.value ∙ c.in_ok-numbers.ensures c.args.asks.now.criteria c.requires)

pub of-requires-clause-few : goal.of-requires-clause-few
of-requires-clause-few c =
    few-found c.args.policy.now c.args.asks.now.criteria c.deref.result.now (c.deref.ensures.value ∙ c.in_ok-numbers.ensures c.args.asks.now.criteria c.requires)

pub returns : goal.returns
returns c =
    let are : c.deref.result.now ≡ found_rules (search_view c.args.asks.now) c.args.policy.now = c.deref.ensures.value ∙ c.in_ok-numbers.ensures c.args.asks.now.criteria c.requires in
    let P : List ℕ → Type 0 = λ numbers. IfOk c.of.result (λ rules. rules ≡ map (ends_of_rule c.args.policy.now c.args.asks.now.criteria) numbers) in
    subst P are c.of.ensures
