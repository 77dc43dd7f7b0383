use Rattle.std.proofs.Common.{◌≡◌, ℕ, List, IfOk, ap, sym, subst, ◌∙◌}
use Rattle.std.specs.List.{All, Contains}
use Rattle.pol_bitmap.specs.declared.Node.{Node}
use Rattle.pol_bitmap.specs.Nodes.{bits_of}
use Rattle.rules_between.specs.ChosenRules.{ChosenRules, targets_of_rules}
use Rattle.dom_trans.proofs.Defaults.{from_the_list, starts_are}
use Rattle.dom_trans.proofs.dom_rules.DomRules.starts_to.Goals as goal

pub targets_of_rules-requires : goal.targets_of_rules-requires
targets_of_rules-requires c =
    let found = c.in_ok-found.found.items in
    subst (λ (xs : List ℕ). All (Contains c.list.result.now.rules) xs) (sym c.deref.ensures.value)
    (subst (λ (r : ChosenRules). All (Contains r.rules) found) (sym c.list.ensures) (from_the_list c.args.self.now c.args.a c.args.b found c.in_ok-found.ensures))

pub returns : goal.returns
returns c =
    subst (λ (xs : List ℕ). IfOk c.targets_of_rules.result (λ (set : List Node). bits_of set ≡ xs))
    (ap (λ (r : ChosenRules). targets_of_rules r.policy c.deref.result.now) c.list.ensures
    ∙ ap (targets_of_rules c.args.self.now.policy) c.deref.ensures.value
    ∙ starts_are c.args.self.now c.args.a c.args.b c.in_ok-found.found.items c.in_ok-found.ensures)
    c.targets_of_rules.ensures
