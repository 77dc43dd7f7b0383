-- From one simple walk to the next.
use Rattle.std.proofs.Common.{◌≡◌, inl, inr, ℕ, suc, true, false, ◌==◌, List, [], ◌∷◌, ◌++◌, map, sym, ap, ◌∙◌, append_assoc, append-nil}
use Rattle.std.specs.List.{Contains}
use Rattle.std.proofs.lemmas.List.{map-append}
use Rattle.walk_enum.specs.Inner.Turns.{Follows, IsLast}
use Rattle.walk_simple.specs.SimpleWalks.{is_new, simple_along}
use Rattle.walk_enum.proofs.Elements.{not_in_nothing, in_cases}
use Rattle.walk_simple.proofs.Walking.{by_node, over, no_end, over_append, over_one}

split_at : {X : Type 0} (xs : List X) (x : X) → Contains xs x → (front : List X) × (back : List X) × (xs ≡ front ++ x ∷ back)
split_at [] x h = not_in_nothing x h
split_at {X} (y ∷ xs) x h = elim (in_cases y xs x h) [
  | inl e ↦ ([], xs, ap (λ (v : X). v ∷ xs) e)
  | inr rest ↦ let r = split_at xs x rest in (y ∷ r.0, r.1, ap (λ (l : List X). y ∷ l) r.2)
]

-- the walks by what stands before a successor, the successor, and what stands behind it
split_over : (next : ℕ → List ℕ) (used : List ℕ) (a b k c : ℕ) (front back : List ℕ) → (a == b) ≡ false → is_new (used ++ a ∷ []) c ≡ true → next a ≡ front ++ c ∷ back
    → simple_along next used a b (suc k) ≡ over next used a b k front ++ (by_node next used a b k c ++ over next used a b k back)
split_over next used a b k c front back apart fresh is =
    no_end next used a b k apart
    ∙ ap (over next used a b k) is
    ∙ over_append next used a b k front (c ∷ back)
    ∙ ap (λ (l : List (List ℕ)). over next used a b k front ++ l) (over_append next used a b k (c ∷ []) back ∙ ap (λ (l : List (List ℕ)). l ++ over next used a b k back) (over_one next used a b k c fresh))

-- the next walk over the same successor
pub follows_inside : (next : ℕ → List ℕ) (used : List ℕ) (a b k c : ℕ) (v w : List ℕ) → (a == b) ≡ false → Contains (next a) c → is_new (used ++ a ∷ []) c ≡ true → Follows (simple_along next (used ++ a ∷ []) c b k) v w
    → Follows (simple_along next used a b (suc k)) (a ∷ v) (a ∷ w)
follows_inside next used a b k c v w apart has fresh walks =
    let row = split_at (next a) c has in
    let pre = over next used a b k row.0 in
    let post = over next used a b k row.1 in
    let f = map (λ (u : List ℕ). a ∷ u) walks.front in
    let g = map (λ (u : List ℕ). a ∷ u) walks.back in
    record {
      front = pre ++ f;
      back = g ++ post;
      is = split_over next used a b k c row.0 row.1 apart fresh row.2
          ∙ ap (λ (ws : List (List ℕ)). pre ++ (ws ++ post)) (ap (map (λ (u : List ℕ). a ∷ u)) walks.is ∙ map-append (λ (u : List ℕ). a ∷ u) walks.front (v ∷ w ∷ walks.back))
          ∙ ap (λ (ws : List (List ℕ)). pre ++ ws) (append_assoc f ((a ∷ v) ∷ (a ∷ w) ∷ g) post)
          ∙ sym (append_assoc pre f ((a ∷ v) ∷ (a ∷ w) ∷ (g ++ post)));
    }

-- the next walk over a later successor
pub follows_turn : (next : ℕ → List ℕ) (used : List ℕ) (a b k c : ℕ) (v w front back : List ℕ) (rest : List (List ℕ)) → (a == b) ≡ false → is_new (used ++ a ∷ []) c ≡ true → next a ≡ front ++ c ∷ back
    → IsLast (simple_along next (used ++ a ∷ []) c b k) v → over next used a b k back ≡ w ∷ rest → Follows (simple_along next used a b (suc k)) (a ∷ v) w
follows_turn next used a b k c v w front back rest apart fresh is walks later =
    let pre = over next used a b k front in
    let f = map (λ (u : List ℕ). a ∷ u) walks.front in
    record {
      front = pre ++ f;
      back = rest;
      is = split_over next used a b k c front back apart fresh is
          ∙ ap (λ (ws : List (List ℕ)). pre ++ (ws ++ over next used a b k back)) (ap (map (λ (u : List ℕ). a ∷ u)) walks.is ∙ map-append (λ (u : List ℕ). a ∷ u) walks.front (v ∷ []))
          ∙ ap (λ (ws : List (List ℕ)). pre ++ ((f ++ (a ∷ v) ∷ []) ++ ws)) later
          ∙ ap (λ (ws : List (List ℕ)). pre ++ ws) (append_assoc f ((a ∷ v) ∷ []) (w ∷ rest))
          ∙ sym (append_assoc pre f ((a ∷ v) ∷ w ∷ rest));
    }

-- the last walk of all
pub ends_turn : (next : ℕ → List ℕ) (used : List ℕ) (a b k c : ℕ) (v front back : List ℕ) → (a == b) ≡ false → is_new (used ++ a ∷ []) c ≡ true → next a ≡ front ++ c ∷ back
    → IsLast (simple_along next (used ++ a ∷ []) c b k) v → over next used a b k back ≡ [] → IsLast (simple_along next used a b (suc k)) (a ∷ v)
ends_turn next used a b k c v front back apart fresh is walks none =
    let pre = over next used a b k front in
    let f = map (λ (u : List ℕ). a ∷ u) walks.front in
    record {
      front = pre ++ f;
      is = split_over next used a b k c front back apart fresh is
          ∙ ap (λ (ws : List (List ℕ)). pre ++ (ws ++ over next used a b k back)) (ap (map (λ (u : List ℕ). a ∷ u)) walks.is ∙ map-append (λ (u : List ℕ). a ∷ u) walks.front (v ∷ []))
          ∙ ap (λ (ws : List (List ℕ)). pre ++ ((f ++ (a ∷ v) ∷ []) ++ ws)) none
          ∙ ap (λ (ws : List (List ℕ)). pre ++ ws) (append-nil (f ++ (a ∷ v) ∷ []))
          ∙ sym (append_assoc pre f ((a ∷ v) ∷ []));
    }
