use Rattle.std.proofs.Common.{subst}
use Rattle.rules_between.specs.ChosenRules.{ChosenRules}
use Rattle.rules_between.specs.Inner.RuleTables.{HaveEnds}
use Rattle.rules_between.proofs.chosen_rules.ChosenRules.have_ends.Goals as goal

pub returns : goal.returns
returns c =
    let table = c.self.inside.table in
    subst (λ (r : ChosenRules). HaveEnds r.policy r.rules) c.self.view_is (table.sources.items, table.targets.items, c.self.invariant.1.ends)
