-- The last value of an option, and the positional words, of groups up to one more.
use Rattle.std.proofs.Common.{◌≡◌, ◌<◌, ◌+◌, ◌++◌, ◌∷◌, [], ℕ, List, length, take, map, get_or, Option, Some, None, option_map, sym, ◌∙◌, ap, refl}
use Rattle.std.specs.Option.{option_or, option_to_list}
use Rattle.std.proofs.lemmas.List.{append-nil, map-append, take_more}
use Rattle.std.proofs.lemmas.List.Elements.{filter_map-append}
use Rattle.se_words.specs.Options.{Group, Named, group_view, named_view}
use Rattle.se_words.specs.Given.{last_value, positional_in, positionals, value_in}
use Rattle.se_words.specs.declared.groups.Named.{Named as NamedCode}
use Rattle.se_words.specs.declared.groups.Group.{Group as GroupCode}

or-none : {A : Type 0} (first : Option A) → option_or first None ≡ first
or-none None = refl
or-none (Some x) = refl

or-or : {A : Type 0} (first second third : Option A) → option_or (option_or first second) third ≡ option_or first (option_or second third)
or-or None second third = refl
or-or (Some x) second third = refl

last-more : (option : List ℕ) (groups : List Group) (group : Group) → last_value option (groups ++ group ∷ []) ≡ option_or (value_in option group) (last_value option groups)
unfolding last_value
last-more option [] group = sym (or-none (value_in option group))
last-more option (first ∷ groups) group =
    ap (λ last. option_or last (value_in option first)) (last-more option groups group) ∙ or-or (value_in option group) (last_value option groups) (value_in option first)

map-or : {A B : Type 0} (f : A → B) (first second : Option A) → option_map f (option_or first second) ≡ option_or (option_map f first) (option_map f second)
map-or f None second = refl
map-or f (Some x) second = refl

-- the last value of the groups up to one more
pub lasts-more : (option : List ℕ) (groups : List GroupCode) (i : ℕ) (d : GroupCode) (value last : Option (Option NamedCode)) → i < length groups
    → option_map (option_map named_view) value ≡ value_in option (group_view (get_or groups i d)) → option_map (option_map named_view) last ≡ last_value option (map group_view (take i groups))
    → option_map (option_map named_view) (option_or value last) ≡ last_value option (map group_view (take (i + 1) groups))
lasts-more option groups i d value last lt here so_far =
    rw (take_more groups i d lt, map-append group_view (take i groups) (get_or groups i d ∷ []), last-more option (map group_view (take i groups)) (group_view (get_or groups i d)), ← here, ← so_far)
    (map-or (option_map named_view) value last)

one : (group : Group) (found : Option Named) → found ≡ positional_in group → option_to_list found ≡ positionals (group ∷ [])
one group None is = rw (← is) refl
one group (Some name) is = rw (← is) refl

views-more : (names : List NamedCode) (found : Option NamedCode) → map named_view (names ++ option_to_list found) ≡ map named_view names ++ option_to_list (option_map named_view found)
views-more names None = rw (append-nil names) (sym (append-nil (map named_view names)))
views-more names (Some name) = map-append named_view names (name ∷ [])

-- the positional words of the groups up to one more
pub positionals-more : (groups : List GroupCode) (i : ℕ) (d : GroupCode) (found : Option NamedCode) (names more : List NamedCode) → i < length groups
    → option_map named_view found ≡ positional_in (group_view (get_or groups i d)) → more ≡ names ++ option_to_list found → map named_view names ≡ positionals (map group_view (take i groups))
    → map named_view more ≡ positionals (map group_view (take (i + 1) groups))
positionals-more groups i d found names more lt here added so_far =
    rw (
      added,
      views-more names found,
      so_far,
      one (group_view (get_or groups i d)) (option_map named_view found) here,
      take_more groups i d lt,
      map-append group_view (take i groups) (get_or groups i d ∷ []),
      filter_map-append positional_in (map group_view (take i groups)) (group_view (get_or groups i d) ∷ []),
    ) refl
