-- The laws of the differences of constraints.
use Rattle.std.proofs.Common.{◌≡◌, Bool, true, false, cond, Option, Some, None, option_map, List, [], ◌∷◌, map, refl, sym, ap, ◌∙◌}
use Rattle.std.specs.Prelude.{not}
use Rattle.std.specs.List.{cons_option, filter_map, flat_map}
use Rattle.std.proofs.lemmas.List.{map-append}
use Rattle.pol_file.specs.declared.parts.Parts.{Parts}
use Rattle.keyed_lists.specs.Differences.{Both, differences, turned}
use Rattle.keyed_lists.proofs.DifferenceLaws.{none_from_itself, differences_turned}
use Rattle.diff_constraints.specs.declared.keyword.ConstraintKeyword.{ConstraintKeyword}
use Rattle.diff_constraints.specs.StatedConstraints.{Stated, stated_cmp, stated_in}
use Rattle.diff_constraints.specs.ConstraintDifferences.{Alone, Sole, change_line, changes_of_group, changes_of_two, constraint_changes, constraint_lines, constraints_alone, grouped, same_key, sole_with, turned_change, turned_sole, with_sole}
use Rattle.diff_constraints.proofs.StatedOrder.{stated_order}

abbrev same : Stated → Stated → Bool
same a b = true

-- ---- a policy and itself

none_alone : (all : List Stated) → constraints_alone all all ≡ []
unfolding constraints_alone
none_alone all = ap (filter_map (λ (both : Both Stated). sole_with both.first both.second)) (none_from_itself same (λ s. refl) stated_cmp (λ s. s) all)

pub none_from_themselves : (keyword : ConstraintKeyword) (policy : Parts) → constraint_lines keyword policy policy ≡ []
unfolding constraint_lines constraint_changes
none_from_themselves keyword policy = ap (λ soles. map (change_line keyword) (flat_map changes_of_group (grouped soles))) (none_alone (stated_in keyword policy.symbols))

-- ---- two policies turned round

sole_turned : (first second : Option Stated) → sole_with second first ≡ option_map turned_sole (sole_with first second)
sole_turned None None = refl
sole_turned None (Some b) = refl
sole_turned (Some a) None = refl
sole_turned (Some a) (Some b) = refl

soles_turned : (all : List (Both Stated)) → filter_map (λ (both : Both Stated). sole_with both.first both.second) (map turned all) ≡ map turned_sole (filter_map (λ (both : Both Stated). sole_with both.first both.second) all)
soles_turned [] = refl
soles_turned (both ∷ all) = rw (sole_turned both.first both.second) (by (sole_with both.first both.second) (soles_turned all))
  where
    by : (o : Option Sole) → filter_map (λ (both : Both Stated). sole_with both.first both.second) (map turned all) ≡ map turned_sole (filter_map (λ (both : Both Stated). sole_with both.first both.second) all)
        → cons_option (option_map turned_sole o) (filter_map (λ (both : Both Stated). sole_with both.first both.second) (map turned all)) ≡ map turned_sole (cons_option o (filter_map (λ (both : Both Stated). sole_with both.first both.second) all))
    by None rest = rest
    by (Some sole) rest = ap (λ soles. turned_sole sole ∷ soles) rest

alone_turned : (first second : List Stated) → constraints_alone second first ≡ map turned_sole (constraints_alone first second)
unfolding constraints_alone
alone_turned first second =
    ap (filter_map (λ (both : Both Stated). sole_with both.first both.second)) (differences_turned same (λ a b. refl) stated_cmp stated_order (λ s. s) first second)
    ∙ soles_turned (differences stated_cmp (λ s. s) same first second)

one_turned : (a : Sole) (groups : List (List Sole)) → with_sole (turned_sole a) (map (map turned_sole) groups) ≡ map (map turned_sole) (with_sole a groups)
one_turned a [] = refl
one_turned a ([] ∷ groups) = refl
one_turned a ((b ∷ group) ∷ groups) = by (same_key a b)
  where
    by : (t : Bool) → cond t ((turned_sole a ∷ turned_sole b ∷ map turned_sole group) ∷ map (map turned_sole) groups) ((turned_sole a ∷ []) ∷ (turned_sole b ∷ map turned_sole group) ∷ map (map turned_sole) groups)
        ≡ map (map turned_sole) (cond t ((a ∷ b ∷ group) ∷ groups) ((a ∷ []) ∷ (b ∷ group) ∷ groups))
    by true = refl
    by false = refl

groups_turned : (soles : List Sole) → grouped (map turned_sole soles) ≡ map (map turned_sole) (grouped soles)
groups_turned [] = refl
groups_turned (a ∷ soles) = ap (with_sole (turned_sole a)) (groups_turned soles) ∙ one_turned a (grouped soles)

two_turned : (x y : Bool) (a b : Sole) → changes_of_two (not x) (not y) (turned_sole a) (turned_sole b) ≡ map turned_change (changes_of_two x y a b)
two_turned false false a b = refl
two_turned false true a b = refl
two_turned true false a b = refl
two_turned true true a b = refl

each_turned : (group : List Sole) → map Alone (map turned_sole group) ≡ map turned_change (map Alone group)
each_turned [] = refl
each_turned (a ∷ group) = ap (λ changes. Alone (turned_sole a) ∷ changes) (each_turned group)

group_turned : (group : List Sole) → changes_of_group (map turned_sole group) ≡ map turned_change (changes_of_group group)
group_turned [] = refl
group_turned (a ∷ []) = refl
group_turned (a ∷ b ∷ []) = two_turned a.is_new b.is_new a b
group_turned (a ∷ b ∷ c ∷ group) = each_turned (a ∷ b ∷ c ∷ group)

all_turned : (groups : List (List Sole)) → flat_map changes_of_group (map (map turned_sole) groups) ≡ map turned_change (flat_map changes_of_group groups)
all_turned [] = refl
all_turned (group ∷ groups) = rw (group_turned group, all_turned groups) (sym (map-append turned_change (changes_of_group group) (flat_map changes_of_group groups)))

pub changes_turned : (first second : List Stated) → constraint_changes second first ≡ map turned_change (constraint_changes first second)
unfolding constraint_changes
changes_turned first second =
    ap (λ soles. flat_map changes_of_group (grouped soles)) (alone_turned first second)
    ∙ ap (flat_map changes_of_group) (groups_turned (constraints_alone first second))
    ∙ all_turned (grouped (constraints_alone first second))
