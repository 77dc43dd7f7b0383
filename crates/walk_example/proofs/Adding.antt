-- An edge is added to a graph.
use Rattle.std.proofs.Common.{◌≡◌, ◌⊎◌, inl, inr, ℕ, ◌-◌, ◌<◌, ◌≤◌, true, false, List, [], ◌∷◌, length, set, get_or, sym, ap, subst, ◌∙◌, arith, get_or-set_same, get_or-set_other}
use Rattle.std.specs.List.{Contains}
use Rattle.std.proofs.Math.ListN.{length-set}
use Rattle.std.proofs.lemmas.List.{get_or_default}
use Rattle.std.proofs.lemmas.Bool.{and_from, and_parts, le-leb, cases_order, false_from_ne_true}
use Rattle.pol_bitmap.specs.declared.Node.{Node}
use Rattle.pol_bitmap.specs.Nodes.{bits_of}
use Rattle.pol_bitmap.specs.Sets.{IsUnion}
use Rattle.pol_bitmap.proofs.BitLists.{contains_bits}
use Rattle.pol_bitmap.proofs.Elements.{contains_nothing, contains_one, contains_first}
use Rattle.walk_enum.specs.Walks.{AreSuccessors}
use Rattle.walk_example.specs.Edges.{node_count, has_edge, edges_join, HaveNodes, AddsEdge}

-- the successors of a node
abbrev pub row : List (List Node) → ℕ → List ℕ
row sets a = bits_of (get_or sets a [])

edge_in : (sets : List (List Node)) (a b : ℕ) → has_edge sets a b ≡ true → Contains (row sets a) b
edge_in sets a b e = (contains_bits (get_or sets a []) b).1 (and_parts _ _ e).1

pub edge_from : (sets : List (List Node)) (a b : ℕ) → 1 ≤ a → a ≤ node_count sets → 1 ≤ b → b ≤ node_count sets → Contains (row sets a) b → has_edge sets a b ≡ true
edge_from sets a b alow ahigh blow bhigh has =
    and_from _ _ (and_from _ _ (and_from _ _ (le-leb 1 a alow) (le-leb a (node_count sets) ahigh)) (and_from _ _ (le-leb 1 b blow) (le-leb b (node_count sets) bhigh))) ((contains_bits (get_or sets a []) b).0 has)

-- the set of a node has its ends
pub row_ends : (sets : List (List Node)) (a : ℕ) → HaveNodes sets → 1 ≤ a → a ≤ node_count sets → AreSuccessors (has_edge sets) a (row sets a)
row_ends sets a nodes low high = record {
  each = λ b. (
    (λ has. let p = nodes a b has in edge_from sets a b low high p.0 p.1 has),
    (λ e. edge_in sets a b e),
  );
}

pub row_shared : (sets : List (List Node)) (a : ℕ) (set d : List Node) → HaveNodes sets → 1 ≤ a → a ≤ node_count sets → d ≡ get_or sets a d → set ≡ d → AreSuccessors (has_edge sets) a (bits_of set)
row_shared sets a set d nodes low high at is =
    subst (λ (l : List Node). AreSuccessors (has_edge sets) a (bits_of l)) (sym (is ∙ at ∙ get_or_default sets a d [] (omega (arith, low, high)))) (row_ends sets a nodes low high)

-- empty sets have no node
pub no_nodes : (sets : List (List Node)) → ((a : ℕ) → row sets a ≡ []) → HaveNodes sets
no_nodes sets none a b has = absurd (contains_nothing b (subst (λ (l : List ℕ). Contains l b) (none a) has))

-- and no edge
pub no_edge : (sets : List (List Node)) → ((a : ℕ) → row sets a ≡ []) → (a b : ℕ) → has_edge sets a b ≡ false
no_edge sets none a b = false_from_ne_true _ λ e. absurd (contains_nothing b (subst (λ (l : List ℕ). Contains l b) (none a) (edge_in sets a b e)))

-- the union with the set that stands at a place is one with its row
pub union_at : (sets : List (List Node)) (a : ℕ) (d end more : List Node) → 1 ≤ a → a ≤ node_count sets → d ≡ get_or sets a d → IsUnion (bits_of d) (bits_of end) (bits_of more) → IsUnion (row sets a) (bits_of end) (bits_of more)
union_at sets a d end more low high at union =
    subst (λ (l : List Node). IsUnion (bits_of l) (bits_of end) (bits_of more)) (at ∙ get_or_default sets a d [] (omega (arith, low, high))) union

-- what stands in a list of sets after a write
row_cases : (sets : List (List Node)) (i a : ℕ) (v : List Node) → i < length sets → ((a ≡ i) × (row (set sets i v) a ≡ bits_of v)) ⊎ ((a ≡ i → ⊥) × (row (set sets i v) a ≡ row sets a))
row_cases sets i a v lt = elim (cases_order a i) [
  | inl e ↦ inl (e, ap bits_of (ap (λ (n : ℕ). get_or (set sets i v) n []) e ∙ get_or-set_same sets i v [] lt))
  | inr apart ↦
      let other : a ≡ i → ⊥ = λ e. elim apart [ inl less ↦ omega (arith, less, e) | inr more ↦ omega (arith, more, e) ] in
      inr (other, ap bits_of (get_or-set_other sets i a v [] other))
]

same_count : (sets : List (List Node)) (i : ℕ) (v : List Node) → node_count (set sets i v) ≡ node_count sets
same_count sets i v = ap (λ (n : ℕ). n - 1) (length-set sets i v)

-- the new set has the old one's nodes and the new end
in_more : (sets : List (List Node)) (from to b : ℕ) (end more : List Node) → bits_of end ≡ to ∷ [] → IsUnion (row sets from) (bits_of end) (bits_of more) → Contains (bits_of more) b → Contains (row sets from) b ⊎ (b ≡ to)
in_more sets from to b end more one union has = elim ((union.each b).0 has) [
  | inl old ↦ inl old
  | inr new ↦ inr (sym (contains_one b to (subst (λ (l : List ℕ). Contains l b) one new)))
]

pub added_nodes : (sets : List (List Node)) (from to : ℕ) (end more : List Node) → HaveNodes sets → from < length sets → 1 ≤ to → to ≤ node_count sets → bits_of end ≡ to ∷ [] → IsUnion (row sets from) (bits_of end) (bits_of more) → HaveNodes (set sets from more)
added_nodes sets from to end more nodes lt low high one union a b has =
    elim (row_cases sets from a more lt) [
      | inl (same, is) ↦ elim (in_more sets from to b end more one union (subst (λ (l : List ℕ). Contains l b) is has)) [
        | inl old ↦ let p = nodes from b old in (p.0, omega (arith, p.1, same_count sets from more))
        | inr e ↦ (omega (arith, e, low), omega (arith, e, high, same_count sets from more))
      ]
      | inr (other, is) ↦ let p = nodes a b (subst (λ (l : List ℕ). Contains l b) is has) in (p.0, omega (arith, p.1, same_count sets from more))
    ]

pub added : (sets : List (List Node)) (from to : ℕ) (end more : List Node) → from < length sets → 1 ≤ from → from ≤ node_count sets → 1 ≤ to → to ≤ node_count sets → bits_of end ≡ to ∷ [] → IsUnion (row sets from) (bits_of end) (bits_of more) → AddsEdge sets (set sets from more) from to
added sets from to end more lt flow fhigh tlow thigh one union = record {
  size = length-set sets from more;
  edges = λ a b. (forth a b, back a b);
}
  where
    new : List (List Node)
    new = set sets from more

    count : node_count new ≡ node_count sets
    count = same_count sets from more

    old_edge : (a b : ℕ) → has_edge new a b ≡ true → Contains (row sets a) b → has_edge sets a b ≡ true
    old_edge a b e has =
        let p = edges_join new a b e in
        edge_from sets a b p.0 (omega (arith, p.1, count)) p.2 (omega (arith, p.3, count)) has

    forth : (a b : ℕ) → has_edge new a b ≡ true → (has_edge sets a b ≡ true) ⊎ ((a ≡ from) × (b ≡ to))
    forth a b e = elim (row_cases sets from a more lt) [
      | inl (same, is) ↦ elim (in_more sets from to b end more one union (subst (λ (l : List ℕ). Contains l b) is (edge_in new a b e))) [
        | inl old ↦ inl (old_edge a b e (subst (λ (n : ℕ). Contains (row sets n) b) (sym same) old))
        | inr t ↦ inr (same, t)
      ]
      | inr (other, is) ↦ inl (old_edge a b e (subst (λ (l : List ℕ). Contains l b) is (edge_in new a b e)))
    ]

    new_edge : (a b : ℕ) → 1 ≤ a → a ≤ node_count sets → 1 ≤ b → b ≤ node_count sets → Contains (row new a) b → has_edge new a b ≡ true
    new_edge a b alow ahigh blow bhigh has = edge_from new a b alow (omega (arith, ahigh, count)) blow (omega (arith, bhigh, count)) has

    -- the node's own new set has it, or the set is the old one
    has_new : (a b : ℕ) → (a ≡ from → Contains (bits_of more) b) → ((a ≡ from → ⊥) → Contains (row sets a) b) → Contains (row new a) b
    has_new a b at off = elim (row_cases sets from a more lt) [
      | inl (same, is) ↦ subst (λ (l : List ℕ). Contains l b) (sym is) (at same)
      | inr (other, is) ↦ subst (λ (l : List ℕ). Contains l b) (sym is) (off other)
    ]

    back : (a b : ℕ) → (has_edge sets a b ≡ true) ⊎ ((a ≡ from) × (b ≡ to)) → has_edge new a b ≡ true
    back a b (inl e) =
        let p = edges_join sets a b e in
        new_edge a b p.0 p.1 p.2 p.3 (has_new a b (λ same. (union.each b).1 (inl (subst (λ (n : ℕ). Contains (row sets n) b) same (edge_in sets a b e)))) (λ other. edge_in sets a b e))
    back a b (inr (same, t)) =
        new_edge a b (omega (arith, same, flow)) (omega (arith, same, fhigh)) (omega (arith, t, tlow)) (omega (arith, t, thigh))
        (has_new a b (λ e. (union.each b).1 (inr (subst (λ (l : List ℕ). Contains l b) (sym one) (subst (λ (n : ℕ). Contains (to ∷ []) n) (sym t) (contains_first to []))))) (λ other. absurd (other same)))
