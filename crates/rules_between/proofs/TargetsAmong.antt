-- The types among some that rules join a type to, and how many rules begin at a type.
use Rattle.std.proofs.Common.{◌≡◌, ℕ, ◌+◌, ◌<◌, ◌≤◌, Bool, true, List, [], ◌∷◌, Result, Ok, Err, IfOk, length, map, refl, sym, ap, subst, ◌∙◌, arith}
use Rattle.std.specs.Prelude.{not, slice_index}
use Rattle.std.specs.List.{Contains, filter, flat_map, range_with_len}
use Rattle.std.proofs.lemmas.Bool.{cond_both}
use Rattle.std.proofs.lemmas.List.{length-map}
use Rattle.std.proofs.lemmas.List.Elements.{All-cons, All-nil}
use Rattle.std.proofs.lemmas.List.Filters.{length-filter_both}
use Rattle.std.proofs.lemmas.List.Sorted.{length_permutation}
use Rattle.pol_bitmap.specs.declared.Node.{Node}
use Rattle.pol_bitmap.specs.Nodes.{bits_of}
use Rattle.pol_bitmap.specs.Sets.{IsCommon, IsSet}
use Rattle.pol_bitmap.proofs.BitLists.{RisesFrom, bits_rise, rises_lower, rises_same}
use Rattle.pol_bitmap.proofs.Elements.{contains_range, kept, keeps}
use Rattle.pol_file.specs.declared.Parts.{Parts}
use Rattle.value_groups.specs.Inner.Grouping.{group_of}
use Rattle.value_groups.specs.Inner.Marking.{AreApart}
use Rattle.pol_expand.specs.JoinedTypes.{any_joins, holds_type, targets_from}
use Rattle.rules_between.specs.ChosenRules.{begins_at}
use Rattle.rules_between.specs.Inner.RuleTables.{AreEndsOf, IsTableOf, rules_under}
use Rattle.pol_expand.specs.Inner.StoredEnds.{IsEnd}
use Rattle.value_groups.proofs.Anys.{or_false}
use Rattle.rules_between.proofs.ByOneEnd.{rules_from_are}
use Rattle.rules_between.proofs.Found.{AreHolders}
use Rattle.value_groups.proofs.Filters.{flat_map_of_maps}
use Rattle.pol_expand.proofs.Holders.{held_within}
use Rattle.rules_between.proofs.Shared.{stored_target}

-- ---- the types

filter_rises : (p : ℕ → Bool) (least : ℕ) (xs : List ℕ) → RisesFrom least xs → RisesFrom least (filter p xs)
filter_rises p least [] h = tt
filter_rises p least (x ∷ xs) h =
    let rest = filter_rises p (x + 1) xs h.1 in
    cond_both (p x) (x ∷ filter p xs) (filter p xs) (RisesFrom least) (λ t. (h.0, rest)) (λ t. rises_lower least (x + 1) (filter p xs) (omega (arith, h.0)) rest)

-- what rules join a type to is within the policy's types
joined_within : (policy : Parts) (rules sources targets : List ℕ) (source target : ℕ) → AreEndsOf policy rules sources targets → any_joins policy rules source target ≡ true → (1 ≤ target) × (target < 1 + policy.symbols.types.nprim)
joined_within policy rules sources targets source target are e =
    let s = stored_target policy rules sources targets source target are e in
    held_within policy (s.end ∷ []) target (All-cons (IsEnd policy) s.end [] s.is (All-nil (IsEnd policy))) (or_false (holds_type policy s.end target) ∙ s.holds)

-- what a set of types has in common with all that the rules join a type to
pub common_are : {E : Type 0} (policy : Parts) (rules sources targets : List ℕ) (source : ℕ) (found among : List Node) (result : Result (List Node) E) → AreEndsOf policy rules sources targets → IsSet among
    → bits_of found ≡ targets_from policy rules source → IfOk result IsSet → IfOk result (λ set. IsCommon (bits_of found) (bits_of among) (bits_of set)) → IfOk result (λ set. bits_of set ≡ filter (any_joins policy rules source) (bits_of among))
unfolding targets_from
common_are policy rules sources targets source found among (Ok set) ends is from form common =
    let joined = any_joins policy rules source in
    let range = range_with_len 1 policy.symbols.types.nprim in
    rises_same 0 0 (bits_of set) (filter joined (bits_of among)) (bits_rise 0 set form.0) (filter_rises joined 0 (bits_of among) (bits_rise 0 among is.0))
    (λ target. (
      λ there.
          let parts = (common.each target).0 there in
          keeps joined (bits_of among) target parts.1 (kept joined range target (subst (λ (xs : List ℕ). Contains xs target) from parts.0)).1,
      λ there.
          let k = kept joined (bits_of among) target there in
          let within = joined_within policy rules sources targets source target ends k.1 in
          (common.each target).1 (subst (λ (xs : List ℕ). Contains xs target) (sym from) (keeps joined range target (contains_range 1 policy.symbols.types.nprim target within.0 within.1) k.1), k.0),
    ))
common_are policy rules sources targets source found among (Err e) ends is from form common = tt

-- ---- the rules

-- the places under the ends that hold a type are as many as the rules that begin at it
pub count_from : (policy : Parts) (rules sources targets : List ℕ) (by_source by_target : List (List ℕ)) (source : ℕ) (from : List ℕ) → IsTableOf policy rules sources targets by_source by_target → AreApart from
    → AreHolders policy by_source (λ value. holds_type policy value source) from → length (flat_map (group_of by_source) from) ≡ length (filter (begins_at policy source) rules)
count_from policy rules sources targets by_source by_target source from table apart holders =
    let places = flat_map (group_of by_source) from in
    let found = rules_under rules (group_of by_source) from in
    let all : found ≡ map (slice_index rules) places = flat_map_of_maps (slice_index rules) (group_of by_source) from in
    sym (length-map places (slice_index rules))
    ∙ ap (length {A = ℕ}) (sym all)
    ∙ sym (length_permutation found (filter (begins_at policy source) rules) (rules_from_are policy rules sources targets by_source by_target source from found table apart holders refl))

-- some of the rules are no more than all
pub some_of : (p : ℕ → Bool) (xs : List ℕ) → length (filter p xs) ≤ length xs
some_of p xs = omega (arith, length-filter_both p (λ x. not (p x)) (λ x. refl) xs)
