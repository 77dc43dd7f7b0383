-- One step of each loop over places and ends.
use Rattle.std.proofs.Common.{◌≡◌, ℕ, ◌+◌, ◌<◌, Bool, true, false, cond, List, [], ◌∷◌, ◌++◌, length, map, take, get_or, refl, sym, ap, ◌∙◌, append_assoc, append-nil}
use Rattle.std.specs.Prelude.{slice_index}
use Rattle.std.specs.List.{filter, flat_map}
use Rattle.std.proofs.lemmas.List.{take_more, map-append}
use Rattle.std.proofs.lemmas.List.Elements.{filter-append}
use Rattle.std.proofs.lemmas.List.Concat.{flat_map-append}
use Rattle.value_groups.specs.Among.{is_among}
use Rattle.rules_between.specs.Inner.RuleTables.{places_to, rules_at, rules_found}

-- one place more
pub rules_more : (rules others to places : List ℕ) (i : ℕ) (old : List ℕ) → i < length places
    → (old ++ rules_at rules (places_to others to (take i places))) ++ cond (is_among to (slice_index others (get_or places i 0))) (slice_index rules (get_or places i 0) ∷ []) []
    ≡ old ++ rules_at rules (places_to others to (take (i + 1) places))
rules_more rules others to places i old lt =
    let p = λ (place : ℕ). is_among to (slice_index others place) in
    let x = get_or places i 0 in
    let more : filter p (take (i + 1) places) ≡ filter p (take i places) ++ cond (p x) (x ∷ []) [] = ap (filter p) (take_more places i 0 lt) ∙ filter-append p (take i places) (x ∷ []) in
    append_assoc old (rules_at rules (places_to others to (take i places))) _
    ∙ ap (λ (xs : List ℕ). old ++ xs) (ap (λ (xs : List ℕ). rules_at rules (filter p (take i places)) ++ xs) (one (p x) x) ∙ sym (map-append (slice_index rules) (filter p (take i places)) (cond (p x) (x ∷ []) [])) ∙ ap (map (slice_index rules)) (sym more))
  where
    one : (b : Bool) (x : ℕ) → cond b (slice_index rules x ∷ []) [] ≡ map (slice_index rules) (cond b (x ∷ []) [])
    one true x = refl
    one false x = refl

-- one end more
pub found_more : (rules others : List ℕ) (groups : ℕ → List ℕ) (from to : List ℕ) (i : ℕ) → i < length from
    → rules_found rules others groups (take i from) to ++ rules_at rules (places_to others to (groups (get_or from i 0))) ≡ rules_found rules others groups (take (i + 1) from) to
found_more rules others groups from to i lt =
    let f = λ (end : ℕ). rules_at rules (places_to others to (groups end)) in
    sym (ap (flat_map f) (take_more from i 0 lt) ∙ flat_map-append f (take i from) (get_or from i 0 ∷ []) ∙ ap (λ (xs : List ℕ). flat_map f (take i from) ++ xs) (append-nil (f (get_or from i 0))))
