use Rattle.std.proofs.Common.{◌∙◌, get_or, ap, arith, sym}
use Rattle.std.proofs.lemmas.List.{drop_more}
use Rattle.rule_listing.specs.ReadRules.{RulesLeft}
use Rattle.rule_listing.proofs.rules_ahead.RulesAhead.pass.Goals as goal

pub returns-clause-numbers : goal.returns-clause-numbers
returns-clause-numbers c =
    let numbers = c.self.inside.numbers.now in
    let next = c.self.inside.next in
    (get_or numbers next 0, sym (ap (λ (left : RulesLeft). left.numbers) c.self.view_is) ∙ drop_more numbers next 0 (omega arith))
