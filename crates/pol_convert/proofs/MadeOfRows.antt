-- What is made of rows, one for each row in order.
use Rattle.std.proofs.Common.{◌≡◌, ℕ, ◌+◌, ◌<◌, ◌≤◌, Bool, List, [], ◌∷◌, ◌++◌, length, take, get_or, refl, sym, ap, subst, ◌∙◌}
use Rattle.std.specs.Prelude.{map}
use Rattle.std.specs.List.{All, filter}
use Rattle.std.proofs.lemmas.List.{get_or-map, map_push, take_all, take_more}
use Rattle.std.proofs.lemmas.List.Elements.{All-filter}
use Rattle.pol_convert.specs.Grouped.{firsts}
use Rattle.pol_convert.specs.Inner.GroupRows.{AreInRows}

module _ {K X G : Type 0} (same : K → K → Bool) (key_of : X → K) (make : K → List X → G) where
  abbrev row_of : List X → K → List X
  row_of xs key = filter (λ x. same key (key_of x)) xs

  -- what is made of the elements of a key
  abbrev pub made_of : List X → K → G
  made_of xs key = make key (row_of xs key)

  -- what is made of the first n keys
  abbrev pub AreMade : List X → List K → ℕ → List G → Type 0
  AreMade xs keys n made = made ≡ map (made_of xs) (take n keys)

  pub none_made : (xs : List X) (keys : List K) → AreMade xs keys 0 []
  none_made xs keys = refl

  row_at : (keys : List K) (rows : List (List X)) (xs : List X) (n : ℕ) (none : K) → AreInRows same key_of keys rows xs → n < length keys → get_or rows n [] ≡ row_of xs (get_or keys n none)
  row_at keys rows xs n none h lt = ap (λ (rs : List (List X)). get_or rs n []) h.each ∙ get_or-map (row_of xs) keys n none [] lt

  -- what holds of all elements holds of those of a row
  pub row_all : (Q : X → Type 0) (keys : List K) (rows : List (List X)) (xs : List X) (n : ℕ) (none : K) → AreInRows same key_of keys rows xs → n < length keys → All Q xs → All Q (get_or rows n [])
  row_all Q keys rows xs n none h lt all = subst (All Q) (sym (row_at keys rows xs n none h lt)) (All-filter (λ x. same (get_or keys n none) (key_of x)) Q xs all)

  -- one more, of the next row
  pub more_made : (keys : List K) (rows : List (List X)) (xs : List X) (n : ℕ) (none : K) (made : List G) (g : G) → AreInRows same key_of keys rows xs → n < length keys → g ≡ make (get_or keys n none) (get_or rows n [])
      → AreMade xs keys n made → AreMade xs keys (n + 1) (made ++ g ∷ [])
  more_made keys rows xs n none made g h lt is so_far =
      let key : K = get_or keys n none in
      ap (λ (ms : List G). ms ++ g ∷ []) so_far
      ∙ ap (λ (m : G). map (made_of xs) (take n keys) ++ m ∷ []) (is ∙ ap (make key) (row_at keys rows xs n none h lt))
      ∙ sym (map_push (made_of xs) (take n keys) key)
      ∙ ap (map (made_of xs)) (sym (take_more keys n none lt))

  -- all of them
  pub all_made : (keys : List K) (rows : List (List X)) (xs : List X) (n : ℕ) (made : List G) → AreInRows same key_of keys rows xs → length keys ≤ n → AreMade xs keys n made → made ≡ map (made_of xs) (firsts same (map key_of xs))
  all_made keys rows xs n made h le so_far = so_far ∙ ap (map (made_of xs)) (take_all n keys le ∙ h.order)
