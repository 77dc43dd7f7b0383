-- What lists are refused for.
use Rattle.std.proofs.Common.{◌≡◌, Bool, List, ℕ, refl}
use Rattle.pol_symbols.specs.declared.Symbols.{Symbols}
use Rattle.rule_criteria.specs.Elements.{elements_of}
use Rattle.rule_query.specs.declared.given.Aspect.{Aspect}
use Rattle.rule_query.specs.declared.given.Aspect.TheVariants.{Source, Target, Class, Permissions, Numbers, Default, Booleans}
use Rattle.rule_query.specs.Refusals.{refusal_of_names}
use Rattle.rule_query.specs.Inner.Refusing.{refusal_of_elements}

-- a criterion that is not about an end is refused for its elements
pub by_elements : (symbols : Symbols) (kinds : List Bool) (aspect : Aspect) (text : List ℕ) → (aspect ≡ Source → ⊥) → (aspect ≡ Target → ⊥) → (aspect ≡ Default → ⊥)
    → refusal_of_elements symbols aspect (elements_of text) ≡ refusal_of_names symbols kinds aspect text
by_elements symbols kinds Source text source target default = absurd (source refl)
by_elements symbols kinds Target text source target default = absurd (target refl)
by_elements symbols kinds Class text source target default = refl
by_elements symbols kinds Permissions text source target default = refl
by_elements symbols kinds Numbers text source target default = refl
by_elements symbols kinds Default text source target default = absurd (default refl)
by_elements symbols kinds Booleans text source target default = refl
