-- The bits of sets, in order.
use Rattle.std.proofs.Common.{◌≡◌, inl, inr, ℕ, Bool, true, false, Some, List, [], ◌∷◌, ◌++◌, slice_get, refl, sym, ap, subst, ◌∙◌, eq-eqb}
use Rattle.std.specs.Prelude.{◌↔◌, ◌⊎◌, ◌||◌, ◌&&◌, ◌==◌, not, IsTrue, Contains}
use Rattle.std.specs.List.{AllByRecursion}
use Rattle.std.specs.List.Sorted.{IsStrictlySortedBy}
use Rattle.std.specs.declared.cmp.Ordering.TheVariants.{Less}
use Rattle.std.specs.Ordering.{nat_cmp}
use Rattle.std.specs.Cmp.Lexicographic.{pointwise, same_text}
use Rattle.std.proofs.lemmas.List.{append-nil}
use Rattle.std.proofs.lemmas.Bool.{eqb-true}
use Rattle.std.proofs.lemmas.Option.{get_or_from_slice_get}
use Rattle.std.proofs.lemmas.Map.Keys.{sorted_from_strictly_increasing}
use Rattle.std.proofs.lemmas.List.Folds.{list_any_at, Any-from_list_any, list_any-append}
use Rattle.keyed_lists.specs.KeyOrder.{keys_in_order}
use Rattle.keyed_lists.proofs.Rising.{IsBelowAll, Rises}
use Rattle.pol_bitmap.specs.declared.node.Node.{Node}
use Rattle.pol_bitmap.specs.Nodes.{bits_of}
use Rattle.pol_bitmap.specs.Sets.{IsSet, IsUnion, IsDifference, nodes_eq}
use Rattle.pol_bitmap.proofs.BitLists.{bits_increasing}
use Rattle.pol_bitmap.proofs.SetLaws.{sets_same_bits}
use Rattle.numbered_rules.specs.Forms.{bits_at}
use Rattle.numbered_rules.specs.NumberedRules.{has, without}
use Rattle.numbered_rules.proofs.Tests.{and_both, and_of, both_ways, eq_itself, or_left, or_right}
use Rattle.numbered_rules.proofs.Members.{member_in_order, member_kept, rises_filter, in_order_is, same_rising}
use Rattle.numbered_rules.proofs.Orders.{has_member, nat_order}
use Rattle.numbered_rules.proofs.Values.{numbers_same}

pub contains_has : (ns : List ℕ) (n : ℕ) → Contains ns n → has ns n ≡ true
contains_has ns n c = list_any_at (λ m. m == n) ns c.0 n c.1 (eq-eqb _ n c.2)

pub has_contains : (ns : List ℕ) (n : ℕ) → has ns n ≡ true → Contains ns n
has_contains ns n e =
    let any = Any-from_list_any (λ m. m == n) ns e in
    let same : any.1 ≡ n = eqb-true any.1 n any.4 in
    subst (Contains ns) same (any.0, any.2, any.3)

pub test_is : (b : Bool) (ns : List ℕ) (n : ℕ) → (IsTrue b ↔ Contains ns n) → b ≡ has ns n
test_is b ns n is = both_ways b (has ns n) (λ e. contains_has ns n (is.0 e)) (λ e. is.1 (has_contains ns n e))

pub set_at : (sets : List (List Node)) (i : ℕ) (set : List Node) → slice_get sets i ≡ Some set → bits_at sets i ≡ bits_of set
set_at sets i set is = ap bits_of (get_or_from_slice_get sets i set [] is)

sorted_rises : (ns : List ℕ) → IsStrictlySortedBy nat_cmp ns → Rises nat_cmp ns
unfolding IsStrictlySortedBy
sorted_rises [] h = tt
sorted_rises (n ∷ ns) h = (below n ns h.0, sorted_rises ns h.1)
  where
    below : (n : ℕ) (ns : List ℕ) → AllByRecursion (λ m. nat_cmp n m ≡ Less) ns → IsBelowAll nat_cmp n ns
    below n [] h = tt
    below n (m ∷ ns) h = (h.0, below n ns h.1)

pub set_rises : (set : List Node) → IsSet set → Rises nat_cmp (bits_of set)
set_rises set is = sorted_rises (bits_of set) (sorted_from_strictly_increasing (bits_of set) (bits_increasing 0 set is.0))

-- a set's bits are some numbers in order, where it has the same members
pub bits_in_order : (set : List Node) → IsSet set → (ns : List ℕ) → ((n : ℕ) → has (bits_of set) n ≡ has ns n) → bits_of set ≡ keys_in_order nat_cmp ns
bits_in_order set is ns same = in_order_is nat_cmp nat_order (bits_of set) ns (set_rises set is) (λ n. sym (has_member (bits_of set) n) ∙ same n ∙ has_member ns n)

has_in_order : (ns : List ℕ) (n : ℕ) → has (keys_in_order nat_cmp ns) n ≡ has ns n
has_in_order ns n = has_member (keys_in_order nat_cmp ns) n ∙ member_in_order nat_cmp nat_order n ns ∙ sym (has_member ns n)

pub or_either : (a b : Bool) → (a || b) ≡ true → (a ≡ true) ⊎ (b ≡ true)
or_either true b e = inl refl
or_either false b e = inr e

pub union_in_order : (a b c : List Node) (ns : List ℕ) → IsSet c → IsUnion (bits_of a) (bits_of b) (bits_of c) → bits_of b ≡ keys_in_order nat_cmp ns → bits_of c ≡ keys_in_order nat_cmp (bits_of a ++ ns)
union_in_order a b c ns is union e = bits_in_order c is (bits_of a ++ ns) λ n.
    both_ways (has (bits_of c) n) (has (bits_of a ++ ns) n)
    (λ h. list_any-append (λ m. m == n) (bits_of a) ns ∙ (elim ((union.each n).0 (has_contains (bits_of c) n h)) [
      | inl l ↦ or_left (has (bits_of a) n) (has ns n) (contains_has (bits_of a) n l)
      | inr r ↦ or_right (has (bits_of a) n) (has ns n) (sym (has_in_order ns n) ∙ ap (λ bs. has bs n) (sym e) ∙ contains_has (bits_of b) n r)
    ]))
    (λ h. contains_has (bits_of c) n ((union.each n).1 (elim (or_either (has (bits_of a) n) (has ns n) (sym (list_any-append (λ m. m == n) (bits_of a) ns) ∙ h)) [
      | inl l ↦ inl (has_contains (bits_of a) n l)
      | inr r ↦ inr (has_contains (bits_of b) n (ap (λ bs. has bs n) e ∙ has_in_order ns n ∙ r))
    ])))

pub alone_in_order : (a : List Node) → IsSet a → bits_of a ≡ keys_in_order nat_cmp (bits_of a ++ [])
alone_in_order a is = bits_in_order a is (bits_of a ++ []) (λ n. ap (λ ns. has ns n) (sym (append-nil (bits_of a))))

not_not : (b : Bool) → (b ≡ true → ⊥) → not b ≡ true
not_not true h = absurd (h refl)
not_not false h = refl

not_both : (b : Bool) → not b ≡ true → b ≡ true → ⊥
not_both true e f = absurd cc
not_both false e f = absurd cc

has_without : (others numbers : List ℕ) (n : ℕ) → has (without others numbers) n ≡ (not (has others n) && has numbers n)
has_without others numbers n = has_member (without others numbers) n ∙ member_kept nat_cmp nat_order (λ m. not (has others m)) n numbers ∙ ap (λ b. not (has others n) && b) (sym (has_member numbers n))

pub difference_without : (a b c : List Node) → IsSet a → IsSet c → IsDifference (bits_of a) (bits_of b) (bits_of c) → bits_of c ≡ without (bits_of b) (bits_of a)
difference_without a b c of is difference =
    same_rising nat_cmp nat_order (bits_of c) (without (bits_of b) (bits_of a)) (set_rises c is) (rises_filter nat_cmp nat_order (λ n. not (has (bits_of b) n)) (bits_of a) (set_rises a of)) λ n.
    sym (has_member (bits_of c) n)
    ∙ both_ways (has (bits_of c) n) (has (without (bits_of b) (bits_of a)) n)
    (λ h. let d = (difference.each n).0 (has_contains (bits_of c) n h) in
    has_without (bits_of b) (bits_of a) n ∙ and_of (not (has (bits_of b) n)) (has (bits_of a) n) (not_not (has (bits_of b) n) (λ e. d.1 (has_contains (bits_of b) n e))) (contains_has (bits_of a) n d.0))
    (λ h. let p = and_both (not (has (bits_of b) n)) (has (bits_of a) n) (sym (has_without (bits_of b) (bits_of a) n) ∙ h) in
    contains_has (bits_of c) n ((difference.each n).1 (has_contains (bits_of a) n p.1, λ k. not_both (has (bits_of b) n) p.0 (contains_has (bits_of b) n k))))
    ∙ has_member (without (bits_of b) (bits_of a)) n

nodes_itself : (a : List Node) → nodes_eq a a ≡ true
nodes_itself [] = refl
nodes_itself (n ∷ ns) = and_of ((n.start == n.start) && (n.map == n.map)) (nodes_eq ns ns) (and_of (n.start == n.start) (n.map == n.map) (eq_itself n.start) (eq_itself n.map)) (nodes_itself ns)

nodes_same : (a b : List Node) → nodes_eq a b ≡ true → a ≡ b
nodes_same [] [] e = refl
nodes_same [] (m ∷ ms) e = absurd cc
nodes_same (n ∷ ns) [] e = absurd cc
nodes_same (n ∷ ns) (m ∷ ms) e =
    let p = and_both ((n.start == m.start) && (n.map == m.map)) (nodes_eq ns ms) e in
    let q = and_both (n.start == m.start) (n.map == m.map) p.0 in
    let start : n.start ≡ m.start = eqb-true n.start m.start q.0 in
    let bits : n.map ≡ m.map = eqb-true n.map m.map q.1 in
    let rest : ns ≡ ms = nodes_same ns ms p.1 in
    λ i. record { start = start i; map = bits i } ∷ rest i

-- sets are equal where their bits are
pub sets_tested : (a b : List Node) → IsSet a → IsSet b → nodes_eq a b ≡ pointwise ◌==◌ (bits_of a) (bits_of b)
sets_tested a b of is =
    both_ways (nodes_eq a b) (pointwise ◌==◌ (bits_of a) (bits_of b))
    (λ e. ap (λ c. pointwise ◌==◌ (bits_of a) (bits_of c)) (sym (nodes_same a b e)) ∙ numbers_same (bits_of a))
    (λ e. let same : bits_of a ≡ bits_of b = same_text (bits_of a) (bits_of b) (sym e) in
    ap (nodes_eq a) (sym (sets_same_bits a b of is (record { each = λ bit. (λ c. subst (λ bs. Contains bs bit) same c, λ c. subst (λ bs. Contains bs bit) (sym same) c) }))) ∙ nodes_itself a)
