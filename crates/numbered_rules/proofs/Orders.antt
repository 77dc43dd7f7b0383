-- The orders of numbers and of keys.
use Rattle.std.proofs.Common.{◌≡◌, ℕ, List, [], ◌∷◌, ◌++◌, refl, sym, ap, ◌∙◌}
use Rattle.std.specs.Prelude.{◌&&◌, ◌==◌}
use Rattle.std.specs.List.{AllByRecursion, flat_map}
use Rattle.std.specs.declared.cmp.Ordering.{Ordering}
use Rattle.std.specs.declared.cmp.Ordering.TheVariants.{Less, Equal, Greater}
use Rattle.std.specs.Ordering.{is_eq, nat_cmp, ordering_then, match_ordering}
use Rattle.std.specs.Cmp.{IsTotalOrder, unsigned_tied, tied_then}
use Rattle.std.proofs.lemmas.Cmp.{nat_cmp_total, on_total, then_total, tied_itself}
use Rattle.std.proofs.lemmas.Map.Lookups.{exact_unsigned}
use Rattle.keyed_lists.specs.KeyOrder.{IsKeyOrder, with_key, keys_in_order}
use Rattle.keyed_lists.proofs.Rising.{IsBelowAll, Rises}
use Rattle.numbered_rules.specs.declared.key.SingleKey.{SingleKey}
use Rattle.numbered_rules.specs.NumberedRules.{has, key_cmp}
use Rattle.numbered_rules.proofs.Tests.{any_agree}
use Rattle.numbered_rules.proofs.Members.{member}

pub nat_order : IsKeyOrder nat_cmp
nat_order = record { total = nat_cmp_total; same = exact_unsigned }

pub has_member : (numbers : List ℕ) (n : ℕ) → has numbers n ≡ member nat_cmp numbers n
has_member numbers n = any_agree (λ m. m == n) (λ m. is_eq (nat_cmp m n)) (λ m. sym (unsigned_tied m n)) numbers

keys_total : IsTotalOrder key_cmp
keys_total =
    then_total (on_total (λ (key : SingleKey). key.source) nat_cmp_total)
    (then_total (on_total (λ (key : SingleKey). key.target) nat_cmp_total)
    (then_total (on_total (λ (key : SingleKey). key.class) nat_cmp_total)
    (then_total (on_total (λ (key : SingleKey). key.name) nat_cmp_total)
    (on_total (λ (key : SingleKey). key.condition) nat_cmp_total))))

both_equal : (a b : Ordering) → ordering_then a b ≡ Equal → (a ≡ Equal) × (b ≡ Equal)
both_equal Less b e = absurd cc
both_equal Equal b e = (refl, e)
both_equal Greater b e = absurd cc

keys_same : (a b : SingleKey) → key_cmp a b ≡ Equal → a ≡ b
keys_same a b e =
    let p = both_equal (nat_cmp a.source b.source) _ e in
    let q = both_equal (nat_cmp a.target b.target) _ p.1 in
    let r = both_equal (nat_cmp a.class b.class) _ q.1 in
    let s = both_equal (nat_cmp a.name b.name) _ r.1 in
    let source : a.source ≡ b.source = exact_unsigned a.source b.source p.0 in
    let target : a.target ≡ b.target = exact_unsigned a.target b.target q.0 in
    let class : a.class ≡ b.class = exact_unsigned a.class b.class r.0 in
    let name : a.name ≡ b.name = exact_unsigned a.name b.name s.0 in
    let condition : a.condition ≡ b.condition = exact_unsigned a.condition b.condition s.1 in
    λ i. record { source = source i; target = target i; class = class i; name = name i; condition = condition i }

pub key_order : IsKeyOrder key_cmp
key_order = record { total = keys_total; same = keys_same }

-- when two keys are equal, part by part
pub tied_keys : (a b : SingleKey) → is_eq (key_cmp a b) ≡ ((a.source == b.source) && ((a.target == b.target) && ((a.class == b.class) && ((a.name == b.name) && (a.condition == b.condition)))))
tied_keys a b =
    sym (tied_then (nat_cmp a.source b.source) _)
    ∙ ap (λ t. is_eq (nat_cmp a.source b.source) && t) (sym (tied_then (nat_cmp a.target b.target) _)
    ∙ ap (λ t. is_eq (nat_cmp a.target b.target) && t) (sym (tied_then (nat_cmp a.class b.class) _)
    ∙ ap (λ t. is_eq (nat_cmp a.class b.class) && t) (sym (tied_then (nat_cmp a.name b.name) _)
    ∙ ap (λ t. is_eq (nat_cmp a.name b.name) && t) (unsigned_tied a.condition b.condition)
    ∙ ap (λ t. t && (a.condition == b.condition)) (unsigned_tied a.name b.name))
    ∙ ap (λ t. t && ((a.name == b.name) && (a.condition == b.condition))) (unsigned_tied a.class b.class))
    ∙ ap (λ t. t && ((a.class == b.class) && ((a.name == b.name) && (a.condition == b.condition)))) (unsigned_tied a.target b.target))
    ∙ ap (λ t. t && ((a.target == b.target) && ((a.class == b.class) && ((a.name == b.name) && (a.condition == b.condition))))) (unsigned_tied a.source b.source)

pub source_below : (a b : SingleKey) → nat_cmp a.source b.source ≡ Less → key_cmp a b ≡ Less
source_below a b e = rw e refl

pub target_below : (a b : SingleKey) → a.source ≡ b.source → nat_cmp a.target b.target ≡ Less → key_cmp a b ≡ Less
target_below a b s e =
    let tied : nat_cmp a.source b.source ≡ Equal = ap (λ n. nat_cmp n b.source) s ∙ tied_itself nat_cmp_total b.source in
    rw (tied, e) refl

-- ---- lists of keys, one for each of some numbers that rise

module _ {K : Type 0} (cmp : K → K → Ordering) where
  below_both : (key : K) (xs ys : List K) → IsBelowAll cmp key xs → IsBelowAll cmp key ys → IsBelowAll cmp key (xs ++ ys)
  below_both key [] ys h k = k
  below_both key (x ∷ xs) ys h k = (h.0, below_both key xs ys h.1 k)

  rises_both : (xs ys : List K) → Rises cmp xs → Rises cmp ys → AllByRecursion (λ x. IsBelowAll cmp x ys) xs → Rises cmp (xs ++ ys)
  rises_both [] ys h k below = k
  rises_both (x ∷ xs) ys h k below = (below_both x xs ys h.0 below.0, rises_both xs ys h.1 k below.1)

  pub all_weaker : (P Q : K → Type 0) → ((key : K) → P key → Q key) → (keys : List K) → AllByRecursion P keys → AllByRecursion Q keys
  all_weaker P Q weaker [] h = tt
  all_weaker P Q weaker (key ∷ keys) h = (weaker key h.0, all_weaker P Q weaker keys h.1)

  all_both : (P : K → Type 0) (xs ys : List K) → AllByRecursion P xs → AllByRecursion P ys → AllByRecursion P (xs ++ ys)
  all_both P [] ys h k = k
  all_both P (x ∷ xs) ys h k = (h.0, all_both P xs ys h.1 k)

  pub all_flat : {X : Type 0} (P : K → Type 0) (g : X → List K) → ((x : X) → AllByRecursion P (g x)) → (xs : List X) → AllByRecursion P (flat_map g xs)
  all_flat P g h [] = tt
  all_flat P g h (x ∷ xs) = all_both P (g x) (flat_map g xs) (h x) (all_flat P g h xs)

  all_with : (P : K → Type 0) (key : K) (keys : List K) → P key → AllByRecursion P keys → AllByRecursion P (with_key cmp key keys)
  all_with P key [] p h = (p, tt)
  all_with P key (other ∷ keys) p h = by (cmp key other) (all_with P key keys p h.1)
    where
      by : (r : Ordering) → AllByRecursion P (with_key cmp key keys) → AllByRecursion P (match_ordering r (key ∷ other ∷ keys) (other ∷ keys) (other ∷ with_key cmp key keys))
      by Less rest = (p, h)
      by Equal rest = h
      by Greater rest = (h.0, rest)

  pub all_in_order : (P : K → Type 0) (keys : List K) → AllByRecursion P keys → AllByRecursion P (keys_in_order cmp keys)
  all_in_order P [] h = tt
  all_in_order P (key ∷ keys) h = all_with P key (keys_in_order cmp keys) h.0 (all_in_order P keys h.1)

  module _ (g : ℕ → List K) (At : ℕ → K → Type 0) (at : (n : ℕ) → AllByRecursion (At n) (g n))
      (below : (n m : ℕ) (a b : K) → nat_cmp n m ≡ Less → At n a → At m b → cmp a b ≡ Less) where
    below_all : (n m : ℕ) (a : K) (bs : List K) → nat_cmp n m ≡ Less → At n a → AllByRecursion (At m) bs → IsBelowAll cmp a bs
    below_all n m a [] e p h = tt
    below_all n m a (b ∷ bs) e p h = (below n m a b e p h.0, below_all n m a bs e p h.1)

    below_flat : (n : ℕ) (a : K) (ns : List ℕ) → At n a → IsBelowAll nat_cmp n ns → IsBelowAll cmp a (flat_map g ns)
    below_flat n a [] p h = tt
    below_flat n a (m ∷ ns) p h = below_both a (g m) (flat_map g ns) (below_all n m a (g m) h.0 p (at m)) (below_flat n a ns p h.1)

    pub rises_flat : ((n : ℕ) → Rises cmp (g n)) → (ns : List ℕ) → Rises nat_cmp ns → Rises cmp (flat_map g ns)
    rises_flat each [] h = tt
    rises_flat each (n ∷ ns) h =
        rises_both (g n) (flat_map g ns) (each n) (rises_flat each ns h.1)
        (all_weaker (At n) (λ a. IsBelowAll cmp a (flat_map g ns)) (λ a p. below_flat n a ns p h.0) (g n) (at n))
