-- What a set has become, by the places of its names.
use Rattle.std.proofs.Common.{◌≡◌, ℕ, Bool, true, false, cond, Option, Some, None, List, [], ◌∷◌, ◌++◌, map, refl, sym, ap, ◌∙◌}
use Rattle.std.specs.List.{filter, flat_map}
use Rattle.keyed_lists.specs.declared.Places.{Places}
use Rattle.keyed_lists.specs.Differences.{differ}
use Rattle.keyed_lists.specs.Inner.PlacedEntries.{both_at, differ_at, paired}
use Rattle.keyed_lists.proofs.FoundEntries.{differences_at}
use Rattle.diff_entries.specs.Entries.{name_cmp}
use Rattle.diff_entries.specs.Changes.{names_alone, signed_name, signed_both}

-- names count where they stand in one set alone
abbrev same : List ℕ → List ℕ → Bool
same a b = true

unsigned : (first second : Option (List ℕ)) → differ same first second ≡ false → signed_name first second ≡ []
unsigned None None e = refl
unsigned None (Some b) e = absurd cc
unsigned (Some a) None e = absurd cc
unsigned (Some a) (Some b) e = refl

module _ (first second : List (List ℕ)) where
  signed_kept : (all : List Places) → flat_map (λ at. signed_both (both_at first second at)) all ≡ flat_map signed_both (map (both_at first second) (filter (differ_at same first second) all))
  signed_kept [] = refl
  signed_kept (at ∷ all) = by (differ_at same first second at) refl (signed_kept all)
    where
      by : (b : Bool) → differ_at same first second at ≡ b → flat_map (λ at. signed_both (both_at first second at)) all ≡ flat_map signed_both (map (both_at first second) (filter (differ_at same first second) all))
          → signed_both (both_at first second at) ++ flat_map (λ at. signed_both (both_at first second at)) all
          ≡ flat_map signed_both (map (both_at first second) (cond b (at ∷ filter (differ_at same first second) all) (filter (differ_at same first second) all)))
      by true e rest = ap (λ text. signed_both (both_at first second at) ++ text) rest
      by false e rest = rw (unsigned (both_at first second at).first (both_at first second at).second e) rest

  pub set_changed : flat_map (λ at. signed_both (both_at first second at)) (paired name_cmp (λ name. name) first second) ≡ names_alone first second
  unfolding names_alone
  set_changed = signed_kept (paired name_cmp (λ name. name) first second) ∙ ap (flat_map signed_both) (sym (differences_at name_cmp (λ name. name) same first second))
