-- The constraints that one of two policies has alone, by the places of all.
use Rattle.std.proofs.Common.{◌≡◌, ℕ, ◌+◌, ◌<◌, Bool, true, false, cond, Option, Some, None, List, [], ◌∷◌, ◌++◌, length, get_or, take, map, refl, sym, ap, ◌∙◌}
use Rattle.std.specs.List.{cons_option, filter, filter_map}
use Rattle.std.proofs.lemmas.List.{take_more}
use Rattle.std.proofs.lemmas.List.Elements.{filter_map-append}
use Rattle.keyed_lists.specs.declared.Places.{Places}
use Rattle.keyed_lists.specs.Differences.{Both, differ}
use Rattle.keyed_lists.specs.Inner.PlacedEntries.{both_at, differ_at, paired}
use Rattle.keyed_lists.proofs.FoundEntries.{differences_at}
use Rattle.diff_constraints.specs.StatedConstraints.{Stated, stated_cmp}
use Rattle.diff_constraints.specs.ConstraintDifferences.{constraints_alone, sole_with}
use Rattle.diff_constraints.specs.Inner.SolePlaces.{sole_at}

-- constraints count where they stand in one policy alone
abbrev same : Stated → Stated → Bool
same a b = true

none_alone : (first second : Option Stated) → differ same first second ≡ false → sole_with first second ≡ None
none_alone None None e = refl
none_alone None (Some b) e = absurd cc
none_alone (Some a) None e = absurd cc
none_alone (Some a) (Some b) e = refl

module _ (first second : List Stated) where
  kept : (all : List Places) → filter_map (sole_at first second) all ≡ filter_map (λ (both : Both Stated). sole_with both.first both.second) (map (both_at first second) (filter (differ_at same first second) all))
  unfolding sole_at
  kept [] = refl
  kept (at ∷ all) = by (differ_at same first second at) refl (kept all)
    where
      by : (b : Bool) → differ_at same first second at ≡ b
          → filter_map (sole_at first second) all ≡ filter_map (λ (both : Both Stated). sole_with both.first both.second) (map (both_at first second) (filter (differ_at same first second) all))
          → filter_map (sole_at first second) (at ∷ all) ≡ filter_map (λ (both : Both Stated). sole_with both.first both.second) (map (both_at first second) (cond b (at ∷ filter (differ_at same first second) all) (filter (differ_at same first second) all)))
      by true e rest = rw rest refl
      by false e rest = rw (none_alone (both_at first second at).first (both_at first second at).second e) rest

  pub alone_at_places : filter_map (sole_at first second) (paired stated_cmp (λ s. s) first second) ≡ constraints_alone first second
  unfolding constraints_alone
  alone_at_places = kept (paired stated_cmp (λ s. s) first second) ∙ ap (filter_map (λ (both : Both Stated). sole_with both.first both.second)) (sym (differences_at stated_cmp (λ s. s) same first second))

-- one place more
pub kept_more : {A B : Type 0} (f : A → Option B) (xs : List A) (i : ℕ) (d : A) (o : Option B) → i < length xs → o ≡ f (get_or xs i d) → filter_map f (take i xs) ++ cons_option o [] ≡ filter_map f (take (i + 1) xs)
kept_more f xs i d o lt is =
    rw is (sym (ap (filter_map f) (take_more xs i d lt) ∙ filter_map-append f (take i xs) (get_or xs i d ∷ [])))
