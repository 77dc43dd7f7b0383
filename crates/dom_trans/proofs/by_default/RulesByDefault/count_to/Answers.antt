use Rattle.std.proofs.Common.{ℕ, ◌≤◌, length, ap, sym, subst, ◌∙◌}
use Rattle.std.specs.Prelude.{slice_index}
use Rattle.std.specs.List.{filter}
use Rattle.std.proofs.lemmas.List.{length-map}
use Rattle.value_groups.specs.Inner.Grouping.{group_of}
use Rattle.rules_between.specs.ChosenRules.{ChosenRules}
use Rattle.dom_trans.specs.DefaultRules.{has_default}
use Rattle.dom_trans.proofs.Grouped.{grouped_are}
use Rattle.dom_trans.proofs.by_default.RulesByDefault.count_to.Goals as goal

pub returns : goal.returns
returns c =
    let inside = c.self.inside in
    let numbers = inside.numbers.items in
    let b = c.args.b in
    let most = subst (λ (r : ChosenRules). b ≤ r.policy.symbols.types.nprim) (sym c.self.view_is) c.requires.most in
    ap (length {A = ℕ}) c.places.ensures
    ∙ sym (length-map (group_of inside.groups b) (slice_index numbers))
    ∙ ap (length {A = ℕ}) (grouped_are inside.policy.now numbers inside.groups b c.requires.least most c.self.invariant)
    ∙ ap (λ (r : ChosenRules). length (filter (has_default r.policy b) r.rules)) c.self.view_is
