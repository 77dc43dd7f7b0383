use Rattle.std.proofs.Common.{◌≡◌, ℕ, ◌<◌, ◌≤◌, List, length, map, ap, sym, subst, ◌∙◌}
use Rattle.std.specs.Prelude.{slice_index}
use Rattle.std.specs.List.{All, filter}
use Rattle.std.proofs.lemmas.Result.{IfOk-weaker}
use Rattle.rules_between.specs.ChosenRules.{ChosenRules}
use Rattle.dom_trans.specs.DefaultRules.{has_default}
use Rattle.dom_trans.proofs.Grouped.{grouped_are, places_within}
use Rattle.dom_trans.proofs.by_default.RulesByDefault.rules_to.Goals as goal

pub rules_at-requires : goal.rules_at-requires
rules_at-requires c =
    let inside = c.self.inside in
    subst (λ (xs : List ℕ). All (λ place. place < length xs) c.places.result.now) (sym c.deref.ensures.value)
    (subst (All (λ place. place < length inside.numbers.items)) (sym c.places.ensures) (places_within inside.policy.now inside.numbers.items inside.groups c.args.b c.self.invariant))

pub returns : goal.returns
returns c =
    let inside = c.self.inside in
    let numbers = inside.numbers.items in
    let b = c.args.b in
    let most = subst (λ (r : ChosenRules). b ≤ r.policy.symbols.types.nprim) (sym c.self.view_is) c.requires.most in
    IfOk-weaker c.rules_at.result (λ found. found.items ≡ map (slice_index c.deref.result.now) c.places.result.now) (λ found. found.items ≡ filter (has_default c.args.self.now.policy b) c.args.self.now.rules)
    (λ found is. is
    ∙ ap (λ (xs : List ℕ). map (slice_index xs) c.places.result.now) c.deref.ensures.value
    ∙ ap (map (slice_index numbers)) c.places.ensures
    ∙ grouped_are inside.policy.now numbers inside.groups b c.requires.least most c.self.invariant
    ∙ ap (λ (r : ChosenRules). filter (has_default r.policy b) r.rules) c.self.view_is) c.rules_at.ensures
