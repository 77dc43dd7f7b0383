-- The lists of rules by what they grant.
use Rattle.std.proofs.Common.{◌≡◌, ℕ, List, [], ◌∷◌, ◌++◌, get_or, refl, ap, ◌∙◌}
use Rattle.pol_file.specs.declared.Parts.{Parts}
use Rattle.counted_rules.specs.CountedRules.{Counted}
use Rattle.rules_between.specs.ChosenRules.{ChosenRules}
use Rattle.dom_trans.specs.declared.grant.Grant.{Grant}
use Rattle.dom_trans.specs.declared.grant.Grant.TheVariants.{Transition, Dyntransition, Setexec, Setcurrent, Execute, Entrypoint, Default}
use Rattle.dom_trans.specs.Inner.RuleLists.{chosen, place_of, rule_lists, rules_of}

-- the list at the place of a grant
at_place : (rules : Counted) (grant : Grant) (found : ChosenRules) → get_or (rule_lists rules) (place_of grant) found ≡ chosen rules.policy (rules_of rules grant)
at_place rules Transition found = refl
at_place rules Dyntransition found = refl
at_place rules Setexec found = refl
at_place rules Setcurrent found = refl
at_place rules Execute found = refl
at_place rules Entrypoint found = refl
at_place rules Default found = refl

pub list_at : (rules : Counted) (grant : Grant) (lists : List ChosenRules) (place : ℕ) (found : ChosenRules) → lists ≡ rule_lists rules → place ≡ place_of grant → found ≡ get_or lists place found → found ≡ chosen rules.policy (rules_of rules grant)
list_at rules grant lists place found are is at =
    at ∙ ap (λ (xs : List ChosenRules). get_or xs place found) are ∙ ap (λ (n : ℕ). get_or (rule_lists rules) n found) is ∙ at_place rules grant found

-- one list more
pub one_more : (policy : Parts) (before old new : List ChosenRules) (numbers listed : List ℕ) → new ≡ old ++ chosen policy numbers ∷ [] → old ≡ before → numbers ≡ listed → new ≡ before ++ chosen policy listed ∷ []
one_more policy before old new numbers listed added was is =
    added ∙ ap (λ (xs : List ChosenRules). xs ++ chosen policy numbers ∷ []) was ∙ ap (λ (ns : List ℕ). before ++ chosen policy ns ∷ []) is
