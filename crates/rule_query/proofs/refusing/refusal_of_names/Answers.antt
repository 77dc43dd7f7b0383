use Rattle.std.proofs.Common.{◌∙◌, Bor, List, ℕ, ap, map}
use Rattle.rule_query.proofs.ListRefusals.{by_elements}
use Rattle.rule_query.specs.Inner.Refusing.{refusal_of_elements}
use Rattle.rule_query.proofs.refusing.refusal_of_names.Goals as goal

pub returns-in_ok-elements-in_default : goal.returns-in_ok-elements-in_default
returns-in_ok-elements-in_default c =
    let symbols = c.args.symbols.now in
    c.refusal_of_elements.ensures
    ∙ ap (λ (names : List (Bor (List ℕ))). refusal_of_elements symbols c.args.aspect (map (λ (name : Bor (List ℕ)). name.now) names)) c.deref.ensures.value
    ∙ ap (refusal_of_elements symbols c.args.aspect) c.in_ok-elements-in_default.ensures
    ∙ by_elements symbols c.args.kinds.now c.args.aspect c.args.text.now c.in_default.not-Source c.in_default.not-Target c.in_default.not-Default
