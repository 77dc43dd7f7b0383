-- How many walks lead from the nodes of a table to the target.
use Rattle.std.proofs.Common.{◌≡◌, ◌≢◌, ◌⊎◌, inl, inr, ℕ, zero, suc, ◌-◌, ◌^◌, ◌<◌, ◌≤◌, List, [], ◌∷◌, length, set, refl, sym, ap, subst, ◌∙◌, arith, length-append, get_or-set_same, get_or-set_other}
use Rattle.std.proofs.lemmas.List.{length-map}
use Rattle.std.specs.Prelude.{slice_index}
use Rattle.std.specs.List.{Contains, flat_map}
use Rattle.std.proofs.Math.ListN.{length-set}
use Rattle.std.proofs.lemmas.Bool.{cases_order}
use Rattle.walk_enum.specs.Walks.{walks_along}
use Rattle.walk_enum.specs.Inner.Counting.{AreCounts, AreOrdered, IsCount, capped, noted, total}
use Rattle.walk_enum.specs.Inner.Turns.{row_of, Leads}
use Rattle.walk_enum.proofs.Along.{by_step, walk_alone}
use Rattle.walk_enum.proofs.Elements.{in_first, in_rest}

-- ---- sums

pub ways_same : (f g : ℕ → ℕ) (row : List ℕ) → ((c : ℕ) → Contains row c → f c ≡ capped (g c)) → capped (total f row) ≡ capped (total g row)
ways_same f g [] same = refl
ways_same f g (c ∷ cs) same = let here = same c (in_first c cs) in let rest = ways_same f g cs (λ d has. same d (in_rest c cs d has)) in omega (arith, here, rest)

-- a sum that is not cut has no part that is
pub sum_same : (f g : ℕ → ℕ) (row : List ℕ) → ((c : ℕ) → Contains row c → f c ≡ capped (g c)) → total f row < 2 ^ 64 - 1 → total f row ≡ total g row
sum_same f g [] same few = refl
sum_same f g (c ∷ cs) same few = let here = same c (in_first c cs) in let rest = sum_same f g cs (λ d has. same d (in_rest c cs d has)) (omega (arith, few)) in omega (arith, here, rest, few)

-- the walks of a node are those of its successors
pub walks_sum : (next : ℕ → List ℕ) (a b k : ℕ) (row : List ℕ) → length (flat_map (by_step next a b k) row) ≡ total (λ c. length (walks_along next c b k)) row
walks_sum next a b k [] = refl
walks_sum next a b k (c ∷ cs) =
    let both = length-append (by_step next a b k c) (flat_map (by_step next a b k) cs) in
    let here = length-map (walks_along next c b k) (λ w. a ∷ w) in
    let rest = walks_sum next a b k cs in
    omega (arith, both, here, rest)

-- ---- the numbers, put down from the target back

-- a node without successors leads to the target where it is that
pub count_alone : (next : ℕ → List ℕ) (to : ℕ) (counts : List ℕ) (a : ℕ) → next a ≡ [] → slice_index counts to ≡ 1 → IsCount next to counts a
count_alone next to counts a empty one zero is = ap (slice_index counts) is ∙ one ∙ sym (ap (λ ws. capped (length ws)) (walk_alone next a to is))
count_alone next to counts a empty one (suc k) (some, each) = absurd (omega (arith, some, ap length empty))

count_more : (next : ℕ → List ℕ) (to : ℕ) (counts : List ℕ) (a c : ℕ) (cs : List ℕ) → next to ≡ [] → next a ≡ c ∷ cs → ((d : ℕ) → Contains (c ∷ cs) d → IsCount next to counts d)
    → (k : ℕ) → Leads next to a k → capped (total (slice_index counts) (c ∷ cs)) ≡ capped (length (walks_along next a to k))
count_more next to counts a c cs none row each zero is = let e : c ∷ cs ≡ [] = sym row ∙ ap next is ∙ none in absurd (cc e)
count_more next to counts a c cs none row each (suc k) (some, leads) =
    ways_same (slice_index counts) (λ d. length (walks_along next d to k)) (c ∷ cs) (λ d has. each d has k (leads d (subst (λ (l : List ℕ). Contains l d) (sym row) has)))
    ∙ ap capped (sym (walks_sum next a to k (c ∷ cs)) ∙ ap (λ (l : List ℕ). length (flat_map (by_step next a to k) l)) (sym row))

-- the numbers of the nodes of the list from a place on are there
pub record AreNoted (rows : List (List ℕ)) (order : List ℕ) (to : ℕ) (counts : List ℕ) (place : ℕ) : Type 0 where
  pub long : length counts ≡ length rows
  pub target : slice_index counts to ≡ 1
  pub done : (i : ℕ) → place ≤ i → i < length order → IsCount (row_of rows) to counts (slice_index order i)

module _ (rows : List (List ℕ)) (order : List ℕ) (to : ℕ) (o : AreOrdered rows order to) (counts : List ℕ) where
  -- so are those of all nodes
  pub all_counted : AreNoted rows order to counts 0 → AreCounts (row_of rows) to counts
  all_counted n a = elim (o.listed a) [
    | inl empty ↦ count_alone (row_of rows) to counts a empty n.target
    | inr (i, lt, is) ↦ subst (IsCount (row_of rows) to counts) is (n.done i (omega arith) lt)
  ]

  module _ (q : ℕ) (lt : q < length order) (n : AreNoted rows order to counts (suc q)) where
    abbrev a : ℕ
    a = slice_index order q

    others : (row : List ℕ) → row_of rows a ≡ row → (c : ℕ) → Contains row c → IsCount (row_of rows) to counts c
    others row is c has = elim (o.later q c lt (subst (λ (l : List ℕ). Contains l c) (sym is) has)) [
      | inl empty ↦ count_alone (row_of rows) to counts c empty n.target
      | inr (j, later, within, same) ↦ subst (IsCount (row_of rows) to counts) same (n.done j (omega (arith, later)) within)
    ]

    more : (row : List ℕ) → row_of rows a ≡ row → AreNoted rows order to (noted counts a row) q
    more [] is = record {
      long = n.long;
      target = n.target;
      done = λ i le in_order. elim (cases_order q i) [
        | inl here ↦ subst (λ (j : ℕ). IsCount (row_of rows) to counts (slice_index order j)) here (count_alone (row_of rows) to counts a is n.target)
        | inr (inl less) ↦ n.done i less in_order
        | inr (inr past) ↦ absurd (omega (arith, le, past))
      ];
    }
    more (c ∷ cs) is = record {
      long = length-set counts a ways ∙ n.long;
      target = elim (at a to) [ inl same ↦ let e : c ∷ cs ≡ [] = sym is ∙ ap (row_of rows) same ∙ o.ends in absurd (cc e) | inr other ↦ other ∙ n.target ];
      done = λ i le in_order. elim (at a (slice_index order i)) [
        | inl same ↦ subst (IsCount (row_of rows) to (set counts a ways)) same own
        | inr other ↦ elim (cases_order q i) [
          | inl here ↦ subst (λ (j : ℕ). IsCount (row_of rows) to (set counts a ways) (slice_index order j)) here own
          | inr (inl less) ↦ λ k leads. other ∙ n.done i less in_order k leads
          | inr (inr past) ↦ absurd (omega (arith, le, past))
        ]
      ];
    }
      where
        ways : ℕ
        ways = capped (total (slice_index counts) (c ∷ cs))

        within : a < length counts
        within = omega (arith, n.long, o.within q lt)

        at : (x y : ℕ) → (x ≡ y) ⊎ (slice_index (set counts x ways) y ≡ slice_index counts y)
        at x y = elim (cases_order x y) [
          | inl e ↦ inl e
          | inr (inl less) ↦ inr (let ne : y ≢ x = omega arith in get_or-set_other counts x y ways 0 ne)
          | inr (inr past) ↦ inr (let ne : y ≢ x = omega arith in get_or-set_other counts x y ways 0 ne)
        ]

        own : IsCount (row_of rows) to (set counts a ways) a
        own k leads = get_or-set_same counts a ways 0 within ∙ count_more (row_of rows) to counts a c cs o.ends is (others (c ∷ cs) is) k leads

    pub noted_more : AreNoted rows order to (noted counts a (row_of rows a)) q
    noted_more = more (row_of rows a) refl
