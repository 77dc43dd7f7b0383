use Rattle.std.proofs.Common.{◌≡◌, length, ap, subst, arith}
use Rattle.counted_rules.specs.CountedRules.{Counted}
use Rattle.rules_between.specs.ChosenRules.{ChosenRules}
use Rattle.dom_trans.specs.Inner.RuleLists.{chosen, rules_of}
use Rattle.dom_trans.proofs.Chosen.{list_at}
use Rattle.dom_trans.proofs.dom_rules.DomRules.list.Goals as goal

pub index-requires : goal.index-requires
index-requires c = omega (arith, c.place.ensures.small, ap (length {A = ChosenRules}) c.self.invariant.0)

pub returns : goal.returns
returns c =
    subst (λ (rules : Counted). c.index.result.now ≡ chosen rules.policy (rules_of rules c.args.grant)) c.self.view_is
    (list_at c.self.inside.rules c.args.grant c.self.inside.lists.items c.place.result c.index.result.now c.self.invariant.0 c.place.ensures.exact c.index.ensures)
