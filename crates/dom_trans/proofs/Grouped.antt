-- Rules that are grouped by their default.
use Rattle.std.proofs.Common.{◌≡◌, ℕ, zero, suc, ◌+◌, ◌<◌, ◌≤◌, List, [], ◌∷◌, Option, Some, None, length, map, get_or, slice_get, refl, sym, ap, ◌∙◌, inl, inr, arith}
use Rattle.std.specs.Prelude.{◌==◌, nat_le, slice_index}
use Rattle.std.specs.List.{All, filter, range_with_len}
use Rattle.std.proofs.lemmas.Bool.{cases_Bool, cond-false, cond-true, eqb-true, le-leb, leb-true, true≢false}
use Rattle.std.proofs.lemmas.List.{length-map}
use Rattle.std.proofs.lemmas.List.Elements.{All-weaker}
use Rattle.pol_bitmap.proofs.Elements.{range_holds}
use Rattle.pol_file.specs.declared.Parts.{Parts}
use Rattle.pol_read.specs.declared.RulePart.{RulePart}
use Rattle.pol_read.specs.declared.RulePart.TheVariants.{Default}
use Rattle.pol_read.specs.StoredRules.{StoredRule, stored_rules}
use Rattle.value_groups.specs.Inner.Grouping.{group_of, is_value_at, places_of}
use Rattle.pol_expand.specs.JoinedTypes.{passes}
use Rattle.value_groups.proofs.Anys.{filter_agree}
use Rattle.value_groups.proofs.Filters.{by_places, filter_map_is}
use Rattle.rules_between.proofs.Found.{groups_within}
use Rattle.dom_trans.specs.DefaultRules.{has_default, part_has_default}
use Rattle.dom_trans.specs.Inner.ByDefault.{AreByDefault, default_value, found_default, part_default}
use Rattle.dom_trans.proofs.Defaults.{not_so}

-- ---- the default of one rule

part_is : (most b : ℕ) (part : RulePart) → 1 ≤ b → b ≤ most → (part_default most part == b) ≡ part_has_default b part
part_is most b (Default value) least le = elim (cases_Bool (nat_le value most)) [
  | inl t ↦ ap (λ (v : ℕ). v == b) (cond-true (nat_le value most) value 0 t)
  | inr f ↦
      ap (λ (v : ℕ). v == b) (cond-false (nat_le value most) value 0 f) ∙ not_so (0 == b) (λ e. omega (arith, least, eqb-true 0 b e))
      ∙ sym (not_so (value == b) (λ e. true≢false (sym (le-leb value most (omega (arith, le, eqb-true value b e))) ∙ f)))
]
part_is most b part least le = not_so (0 == b) (λ e. omega (arith, least, eqb-true 0 b e))

value_is : (policy : Parts) (b number : ℕ) → 1 ≤ b → b ≤ policy.symbols.types.nprim → (default_value policy number == b) ≡ has_default policy b number
unfolding default_value has_default
value_is policy b number least le = go (slice_get (stored_rules policy) number)
  where
    go : (o : Option StoredRule) → (found_default policy.symbols.types.nprim o == b) ≡ passes (λ (rule : StoredRule). part_has_default b rule.part) o
    go None = not_so (0 == b) (λ e. omega (arith, least, eqb-true 0 b e))
    go (Some rule) = part_is policy.symbols.types.nprim b rule.part least le

-- it is one of the values of the policy's types, or 0
part_within : (most : ℕ) (part : RulePart) → part_default most part ≤ most
part_within most (Default value) = elim (cases_Bool (nat_le value most)) [
  | inl t ↦ omega (arith, cond-true (nat_le value most) value 0 t, leb-true value most t)
  | inr f ↦ omega (arith, cond-false (nat_le value most) value 0 f)
]
part_within most part = omega arith

value_within : (policy : Parts) (number : ℕ) → default_value policy number ≤ policy.symbols.types.nprim
unfolding default_value
value_within policy number = go (slice_get (stored_rules policy) number)
  where
    go : (o : Option StoredRule) → found_default policy.symbols.types.nprim o ≤ policy.symbols.types.nprim
    go None = omega arith
    go (Some rule) = part_within policy.symbols.types.nprim rule.part

pub value_of : (policy : Parts) (number : ℕ) (rule : StoredRule) → slice_get (stored_rules policy) number ≡ Some rule → part_default policy.symbols.types.nprim rule.part ≡ default_value policy number
unfolding default_value
value_of policy number rule at = sym (ap (found_default policy.symbols.types.nprim) at)

-- ---- those of all rules

at_map : (f : ℕ → ℕ) (xs : List ℕ) (k : ℕ) → k < length xs → slice_index (map f xs) k ≡ f (slice_index xs k)
at_map f [] k lt = absurd (omega (arith, lt))
at_map f (x ∷ xs) zero lt = refl
at_map f (x ∷ xs) (suc k) lt = at_map f xs k (omega (arith, lt))

pub values_within : (policy : Parts) (numbers : List ℕ) → All (λ value. value ≤ policy.symbols.types.nprim) (map (default_value policy) numbers)
values_within policy numbers = λ k d lt. go numbers k d lt
  where
    go : (xs : List ℕ) (k d : ℕ) → k < length (map (default_value policy) xs) → get_or (map (default_value policy) xs) k d ≤ policy.symbols.types.nprim
    go [] k d lt = absurd (omega (arith, lt))
    go (x ∷ xs) zero d lt = value_within policy x
    go (x ∷ xs) (suc k) d lt = go xs k d (omega (arith, lt))

pub places_within : (policy : Parts) (numbers : List ℕ) (groups : List (List ℕ)) (b : ℕ) → AreByDefault policy numbers groups → All (λ place. place < length numbers) (group_of groups b)
places_within policy numbers groups b are = groups_within policy.symbols.types.nprim (map (default_value policy) numbers) groups (length numbers) are (length-map numbers (default_value policy)) b

-- the rules of a group are those of a default
pub grouped_are : (policy : Parts) (numbers : List ℕ) (groups : List (List ℕ)) (b : ℕ) → 1 ≤ b → b ≤ policy.symbols.types.nprim → AreByDefault policy numbers groups → map (slice_index numbers) (group_of groups b) ≡ filter (has_default policy b) numbers
unfolding places_of
grouped_are policy numbers groups b least le are =
    ap (map r) (are.each b le ∙ ap (λ (n : ℕ). filter (is_value_at values b) (range_with_len 0 n)) (length-map numbers (default_value policy)) ∙ agree)
    ∙ sym (filter_map_is r (has_default policy b) range)
    ∙ ap (filter (has_default policy b)) (sym (by_places numbers))
  where
    r : ℕ → ℕ
    r = slice_index numbers

    values : List ℕ
    values = map (default_value policy) numbers

    range : List ℕ
    range = range_with_len 0 (length numbers)

    agree : filter (is_value_at values b) range ≡ filter (λ place. has_default policy b (r place)) range
    agree = filter_agree (is_value_at values b) (λ place. has_default policy b (r place)) range
        (All-weaker (λ k. (0 ≤ k) × (k < 0 + length numbers)) (λ place. is_value_at values b place ≡ has_default policy b (r place))
        (λ place w. ap (λ (v : ℕ). v == b) (at_map (default_value policy) numbers place (omega (arith, w.1))) ∙ value_is policy b (r place) least le)
        range (range_holds 0 (length numbers)))
