-- States of booleans by their values, one after the other.
use Rattle.std.proofs.Common.{◌≡◌, ◌∙◌, ◌+◌, ◌<◌, ◌∷◌, ◌++◌, [], ℕ, List, ap, get_or, length, map, sym, take}
use Rattle.std.proofs.lemmas.List.{map-append, take_more}
use Rattle.std.proofs.lemmas.List.Elements.{filter_map-append}
use Rattle.pol_symbols.specs.declared.Symbols.{Symbols}
use Rattle.bool_state.specs.declared.Given.{Given}
use Rattle.se_words.specs.States.{State, state_view}
use Rattle.se_words.specs.declared.State.{State as StateCode}
use Rattle.se_walks.specs.StatedRules.{given_by, given_states}

given_more : (symbols : Symbols) (states : List StateCode) (i : ℕ) (d : StateCode) → i < length states
    → given_states symbols (map state_view (take (i + 1) states)) ≡ given_states symbols (map state_view (take i states)) ++ given_states symbols (state_view (get_or states i d) ∷ [])
given_more symbols states i d lt =
    let front : List State = map state_view (take i states) in
    ap (λ (l : List StateCode). given_states symbols (map state_view l)) (take_more states i d lt)
    ∙ ap (given_states symbols) (map-append state_view (take i states) (get_or states i d ∷ []))
    ∙ filter_map-append (given_by symbols) front (state_view (get_or states i d) ∷ [])

-- the states before one, and then it
pub given_then : (symbols : Symbols) (states : List StateCode) (i : ℕ) (d : StateCode) (old new : List Given) → i < length states
    → new ≡ old ++ given_states symbols (state_view (get_or states i d) ∷ []) → old ≡ given_states symbols (map state_view (take i states))
    → new ≡ given_states symbols (map state_view (take (i + 1) states))
given_then symbols states i d old new lt is was =
    is ∙ ap (λ (given : List Given). given ++ given_states symbols (state_view (get_or states i d) ∷ [])) was ∙ sym (given_more symbols states i d lt)
