-- What a map has after an entry is put into it, where it has a function's value of each of some keys.
use Rattle.std.proofs.Common.{◌≡◌, ℕ, Bool, true, false, cond, Option, Some, None, List, [], ◌∷◌, map, refl, sym, ap, ◌∙◌}
use Rattle.std.specs.declared.cmp.Ordering.{Ordering}
use Rattle.std.specs.declared.cmp.Ordering.TheVariants.{Less, Equal, Greater}
use Rattle.std.specs.Ordering.{match_ordering, is_eq, ordering_reverse}
use Rattle.std.specs.Cmp.{IsTotalOrder}
use Rattle.std.specs.Map.{lookup, values_of}
use Rattle.std.specs.BTreeMap.{insert_entry, is_at}
use Rattle.std.proofs.lemmas.Cmp.{tied_itself, alike_right}
use Rattle.keyed_lists.specs.KeyOrder.{with_key}
use Rattle.keyed_lists.proofs.Rising.{IsBelowAll, Rises, below_lower, below_same}

-- a key beside its value
abbrev pub entry : {K X : Type 0} → (K → X) → K → K × X
entry f key = (key, f key)

pub values_are : {K X : Type 0} (f : K → X) (keys : List K) → values_of (map (entry f) keys) ≡ map f keys
values_are f [] = refl
values_are f (key ∷ keys) = ap (λ vs. f key ∷ vs) (values_are f keys)

-- ---- a key that is looked up

is_eq_turned : (r : Ordering) → is_eq (ordering_reverse r) ≡ is_eq r
is_eq_turned Less = refl
is_eq_turned Equal = refl
is_eq_turned Greater = refl

pub equal_of : (r : Ordering) → is_eq r ≡ true → r ≡ Equal
equal_of Less e = absurd cc
equal_of Equal e = refl
equal_of Greater e = absurd cc

pub same_turned : {K : Type 0} (cmp : K → K → Ordering) → IsTotalOrder cmp → (a b : K) → is_eq (cmp a b) ≡ is_eq (cmp b a)
same_turned cmp order a b = ap is_eq (order.antisymm a b) ∙ is_eq_turned (cmp b a)

module _ {K X : Type 0} (cmp : K → K → Ordering) (order : IsTotalOrder cmp) where
  pub found_after : (es : List (K × X)) (key : K) (v : X) (q : K) → lookup (is_at (cmp q)) (insert_entry cmp es key v) ≡ cond (is_eq (cmp key q)) (Some v) (lookup (is_at (cmp q)) es)
  found_after [] key v q = ap (λ b. cond b (Some v) None) (same_turned cmp order q key)
  found_after (e ∷ es) key v q = by (cmp key e.0) refl (found_after es key v q)
    where
      rest : Option X
      rest = lookup (is_at (cmp q)) es

      greater : (b : Bool) → is_eq (cmp q e.0) ≡ b → cmp key e.0 ≡ Greater → lookup (is_at (cmp q)) (insert_entry cmp es key v) ≡ cond (is_eq (cmp key q)) (Some v) (lookup (is_at (cmp q)) es)
          → cond b (Some e.1) (lookup (is_at (cmp q)) (insert_entry cmp es key v)) ≡ cond (is_eq (cmp key q)) (Some v) (cond b (Some e.1) (lookup (is_at (cmp q)) es))
      greater true same above more =
          let apart : is_eq (cmp key q) ≡ false = ap is_eq (alike_right order q e.0 key (equal_of (cmp q e.0) same) ∙ above) in
          ap (λ b. cond b (Some v) (Some e.1)) (sym apart)
      greater false same above more = more

      equal : (b : Bool) → is_eq (cmp key q) ≡ b → is_eq (cmp q e.0) ≡ b → cond (is_eq (cmp q e.0)) (Some v) (lookup (is_at (cmp q)) es) ≡ cond (is_eq (cmp key q)) (Some v) (cond (is_eq (cmp q e.0)) (Some e.1) (lookup (is_at (cmp q)) es))
      equal true here there = rw (here, there) refl
      equal false here there = rw (here, there) refl

      by : (r : Ordering) → cmp key e.0 ≡ r → lookup (is_at (cmp q)) (insert_entry cmp es key v) ≡ cond (is_eq (cmp key q)) (Some v) (lookup (is_at (cmp q)) es)
          → lookup (is_at (cmp q)) (match_ordering r ((key, v) ∷ e ∷ es) ((e.0, v) ∷ es) (e ∷ insert_entry cmp es key v)) ≡ cond (is_eq (cmp key q)) (Some v) (lookup (is_at (cmp q)) (e ∷ es))
      by Less h more = ap (λ b. cond b (Some v) (lookup (is_at (cmp q)) (e ∷ es))) (same_turned cmp order q key)
      by Equal h more = equal (is_eq (cmp key q)) refl (ap is_eq (sym (alike_right order key e.0 q h)) ∙ same_turned cmp order q key)
      by Greater h more = greater (is_eq (cmp q e.0)) refl h more

  -- ---- entries of a function's values

  module _ (f g : K → X) (key : K) (v : X) (changed : (q : K) → g q ≡ cond (is_eq (cmp key q)) v (f q)) where
    unchanged : (q : K) → is_eq (cmp key q) ≡ false → g q ≡ f q
    unchanged q apart = changed q ∙ ap (λ b. cond b v (f q)) apart

    same_above : (keys : List K) → IsBelowAll cmp key keys → map (entry f) keys ≡ map (entry g) keys
    same_above [] h = refl
    same_above (other ∷ keys) h = rw (same_above keys h.1, unchanged other (ap is_eq h.0)) refl

    pub inserted : (keys : List K) → Rises cmp keys → insert_entry cmp (map (entry f) keys) key v ≡ map (entry g) (with_key cmp key keys)
    inserted [] h = rw (changed key ∙ ap (λ (r : Ordering). cond (is_eq r) v (f key)) (tied_itself order key)) refl
    inserted (other ∷ keys) h = by (cmp key other) refl (inserted keys h.1)
      where
        by : (r : Ordering) → cmp key other ≡ r → insert_entry cmp (map (entry f) keys) key v ≡ map (entry g) (with_key cmp key keys)
            → match_ordering r ((key, v) ∷ entry f other ∷ map (entry f) keys) ((other, v) ∷ map (entry f) keys) (entry f other ∷ insert_entry cmp (map (entry f) keys) key v)
            ≡ map (entry g) (match_ordering r (key ∷ other ∷ keys) (other ∷ keys) (other ∷ with_key cmp key keys))
        by Less e more =
            rw (changed key ∙ ap (λ (r : Ordering). cond (is_eq r) v (f key)) (tied_itself order key), unchanged other (ap is_eq e), same_above keys (below_lower cmp order key other keys e h.0)) refl
        by Equal e more =
            rw (changed other ∙ ap (λ (r : Ordering). cond (is_eq r) v (f other)) e, same_above keys (below_same cmp order key other keys e h.0)) refl
        by Greater e more = rw (unchanged other (ap is_eq e), more) refl
