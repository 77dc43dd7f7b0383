-- From one walk along given successors to the next.
use Rattle.std.proofs.Common.{◌≡◌, inl, inr, ℕ, zero, suc, ◌+◌, ◌-◌, ◌<◌, true, false, List, [], ◌∷◌, ◌++◌, length, map, get_or-set_same, take, drop, get_or, set, refl, sym, ap, subst, ◌∙◌, arith, append_assoc, append-nil, add-one, drop-cons, length-append, Some, slice_get}
use Rattle.std.specs.Prelude.{slice_index}
use Rattle.std.specs.List.{Contains, flat_map}
use Rattle.std.proofs.lemmas.List.{take_more, take-set-le, get_or_default, map-append}
use Rattle.std.proofs.Math.ListN.{length-set}
use Rattle.std.proofs.lemmas.List.Elements.{Contains-append_right}
use Rattle.std.proofs.lemmas.Grind.{flat_map-append}
use Rattle.std.proofs.lemmas.Option.{slice_get-get_or}
use Rattle.std.proofs.Math.Seq.{get_or-append_seam}
use Rattle.walk_enum.specs.Walks.{walks_along}
use Rattle.walk_enum.specs.Moving.{Moves}
use Rattle.walk_enum.specs.Inner.Turns.{Follows, IsLast, Leads, IsTurn, first_along}
use Rattle.walk_enum.proofs.Elements.{not_in_nothing, in_cases, in_first, in_rest}
use Rattle.walk_enum.proofs.Ascending.{Ascends, Before, one_place}
use Rattle.walk_enum.proofs.Along.{by_step, walk_parts, alone, starts, walk_length, walk_alone}

-- ---- a list by its parts

split_at : {X : Type 0} (xs : List X) (x : X) → Contains xs x → (front : List X) × (back : List X) × (xs ≡ front ++ x ∷ back)
split_at [] x h = not_in_nothing x h
split_at {X} (y ∷ xs) x h = elim (in_cases y xs x h) [
  | inl e ↦ ([], xs, ap (λ (v : X). v ∷ xs) e)
  | inr rest ↦ let r = split_at xs x rest in (y ∷ r.0, r.1, ap (λ (l : List X). y ∷ l) r.2)
]

get_seam : {X : Type 0} (xs : List X) (y : X) (ys : List X) → slice_get (xs ++ y ∷ ys) (length xs) ≡ Some y
get_seam xs y ys = slice_get-get_or (xs ++ y ∷ ys) (length xs) y (omega (arith, length-append xs (y ∷ ys))) ∙ ap Some (get_or-append_seam xs y ys y)

-- ---- the first walk

begins_row : (next : ℕ → List ℕ) (a b k : ℕ) (row : List ℕ) → 0 < length row → (back : List (List ℕ)) × (walks_along next (slice_index row 0) b k ≡ first_along next (slice_index row 0) k ∷ back)
    → (back : List (List ℕ)) × (flat_map (by_step next a b k) row ≡ (a ∷ first_along next (slice_index row 0) k) ∷ back)
begins_row next a b k [] lt h = absurd (omega (arith, lt))
begins_row next a b k (c ∷ cs) lt (back, is) =
    (map (λ w. a ∷ w) back ++ flat_map (by_step next a b k) cs, ap (λ (ws : List (List ℕ)). map (λ w. a ∷ w) ws ++ flat_map (by_step next a b k) cs) is)

in_at : (xs : List ℕ) (i : ℕ) → i < length xs → Contains xs (slice_index xs i)
in_at xs i lt = (i, lt, get_or_default xs i (get_or xs i 0) 0 lt)

pub begins : (next : ℕ → List ℕ) (a b k : ℕ) → Leads next b a k → (back : List (List ℕ)) × (walks_along next a b k ≡ first_along next a k ∷ back)
begins next a b zero e = ([], walk_alone next a b e)
begins next a b (suc k) (some, each) = begins_row next a b k (next a) some (begins next (slice_index (next a) 0) b k (each (slice_index (next a) 0) (in_at (next a) 0 some)))

pub first_walk_is : (next : ℕ → List ℕ) (a b k : ℕ) → Leads next b a k → slice_get (walks_along next a b k) 0 ≡ Some (first_along next a k)
first_walk_is next a b k h = let f = begins next a b k h in ap (λ (ws : List (List ℕ)). slice_get ws 0) f.1

-- ---- one step before

abbrev flat : (ℕ → List ℕ) → ℕ → ℕ → ℕ → List ℕ → List (List ℕ)
flat next a b k row = flat_map (by_step next a b k) row

pub ends_step : (next : ℕ → List ℕ) (a b c k : ℕ) (v : List ℕ) → IsLast (next a) c → IsLast (walks_along next c b k) v → IsLast (walks_along next a b (suc k)) (a ∷ v)
ends_step next a b c k v row walks = record {
  front = flat next a b k row.front ++ map (λ w. a ∷ w) walks.front;
  is = ap (flat next a b k) row.is ∙ flat_map-append (by_step next a b k) row.front (c ∷ [])
      ∙ ap (λ (ws : List (List ℕ)). flat next a b k row.front ++ ws) (append-nil (by_step next a b k c) ∙ ap (map (λ w. a ∷ w)) walks.is ∙ map-append (λ w. a ∷ w) walks.front (v ∷ []))
      ∙ sym (append_assoc (flat next a b k row.front) (map (λ w. a ∷ w) walks.front) ((a ∷ v) ∷ []));
}

pub follows_step : (next : ℕ → List ℕ) (a b c k : ℕ) (v w : List ℕ) → Contains (next a) c → Follows (walks_along next c b k) v w → Follows (walks_along next a b (suc k)) (a ∷ v) (a ∷ w)
follows_step next a b c k v w has walks =
    let row = split_at (next a) c has in
    let pre = flat next a b k row.0 in
    let post = flat next a b k row.1 in
    let f = map (λ (u : List ℕ). a ∷ u) walks.front in
    let g = map (λ (u : List ℕ). a ∷ u) walks.back in
    record {
      front = pre ++ f;
      back = g ++ post;
      is = ap (flat next a b k) row.2 ∙ flat_map-append (by_step next a b k) row.0 (c ∷ row.1)
          ∙ ap (λ (ws : List (List ℕ)). pre ++ (ws ++ post)) (ap (map (λ (u : List ℕ). a ∷ u)) walks.is ∙ map-append (λ (u : List ℕ). a ∷ u) walks.front (v ∷ w ∷ walks.back))
          ∙ ap (λ (ws : List (List ℕ)). pre ++ ws) (append_assoc f ((a ∷ v) ∷ (a ∷ w) ∷ g) post)
          ∙ sym (append_assoc pre f ((a ∷ v) ∷ (a ∷ w) ∷ (g ++ post)));
    }

pub follows_turn : (next : ℕ → List ℕ) (a b c d k : ℕ) (v w : List ℕ) → Follows (next a) c d → IsLast (walks_along next c b k) v → (back : List (List ℕ)) × (walks_along next d b k ≡ w ∷ back)
    → Follows (walks_along next a b (suc k)) (a ∷ v) (a ∷ w)
follows_turn next a b c d k v w row walks (back, starts) =
    let pre = flat next a b k row.front in
    let post = flat next a b k row.back in
    let f = map (λ (u : List ℕ). a ∷ u) walks.front in
    let g = map (λ (u : List ℕ). a ∷ u) back in
    record {
      front = pre ++ f;
      back = g ++ post;
      is = ap (flat next a b k) row.is ∙ flat_map-append (by_step next a b k) row.front (c ∷ d ∷ row.back)
          ∙ ap (λ (ws : List (List ℕ)). pre ++ (ws ++ (by_step next a b k d ++ post))) (ap (map (λ (u : List ℕ). a ∷ u)) walks.is ∙ map-append (λ (u : List ℕ). a ∷ u) walks.front (v ∷ []))
          ∙ ap (λ (ws : List (List ℕ)). pre ++ ((f ++ (a ∷ v) ∷ []) ++ (ws ++ post))) (ap (map (λ (u : List ℕ). a ∷ u)) starts)
          ∙ ap (λ (ws : List (List ℕ)). pre ++ ws) (append_assoc f ((a ∷ v) ∷ []) ((a ∷ w) ∷ (g ++ post)))
          ∙ sym (append_assoc pre f ((a ∷ v) ∷ (a ∷ w) ∷ (g ++ post)));
    }

-- ---- places of a walk

pub step_at : (next : ℕ → List ℕ) (a b k i : ℕ) (w : List ℕ) → Contains (walks_along next a b k) w → i < k → Contains (next (slice_index w i)) (slice_index w (suc i))
step_at next a b zero i w h lt = absurd (omega (arith, lt))
step_at next a b (suc k) zero w h lt =
    let p = walk_parts next a b k w h in
    let s = starts next p.0 b k p.1 p.3 in
    subst (λ (u : List ℕ). Contains (next (slice_index u 0)) (slice_index u 1)) p.4 (subst (λ (u : List ℕ). Contains (next a) (slice_index u 0)) s.1 p.2)
step_at next a b (suc k) (suc i) w h lt =
    let p = walk_parts next a b k w h in
    subst (λ (u : List ℕ). Contains (next (slice_index u (suc i))) (slice_index u (suc (suc i)))) p.4 (step_at next p.0 b k i p.1 p.3 (omega (arith, lt)))

pub ends_at : (next : ℕ → List ℕ) (a b k : ℕ) (w : List ℕ) → Contains (walks_along next a b k) w → IsLast (walks_along next (slice_index w k) b 0) (drop k w)
ends_at next a b zero w h =
    let p = alone next a b w h in
    subst (λ (u : List ℕ). IsLast (walks_along next (slice_index u 0) b 0) u) p.1 (record { front = []; is = walk_alone next a b p.0 })
ends_at next a b (suc k) w h =
    let p = walk_parts next a b k w h in
    subst (λ (u : List ℕ). IsLast (walks_along next (slice_index u (suc k)) b 0) (drop (suc k) u)) p.4 (ends_at next p.0 b k p.1 p.3)

pub leads_at : (next : ℕ → List ℕ) (a b i j k : ℕ) (w : List ℕ) → i + j ≡ k → Contains (walks_along next a b k) w → Leads next b a k → Leads next b (slice_index w i) j
leads_at next a b zero j k w is h leads =
    let s = starts next a b k w h in
    let same : k ≡ j = omega (arith, is) in
    subst (λ (u : List ℕ). Leads next b (slice_index u 0) j) s.1 (subst (Leads next b a) same leads)
leads_at next a b (suc i) j zero w is h leads = absurd (omega (arith, is))
leads_at next a b (suc i) j (suc k) w is h leads =
    let p = walk_parts next a b k w h in
    subst (λ (u : List ℕ). Leads next b (slice_index u (suc i)) j) p.4 (leads_at next p.0 b i j k p.1 (omega (arith, is)) p.3 (leads.1 p.0 p.2))

pub follows_at : (next : ℕ → List ℕ) (a b i j k : ℕ) (w s : List ℕ) → i + j ≡ k → Contains (walks_along next a b k) w → Follows (walks_along next (slice_index w i) b j) (drop i w) s → Follows (walks_along next a b k) w (take i w ++ s)
follows_at next a b zero j k w s is h f =
    let st = starts next a b k w h in
    let same : j ≡ k = omega (arith, is) in
    let head : slice_index w 0 ≡ a = ap (λ (u : List ℕ). slice_index u 0) (sym st.1) in
    subst (λ (n : ℕ). Follows (walks_along next a b n) w s) same (subst (λ (x : ℕ). Follows (walks_along next x b j) w s) head f)
follows_at next a b (suc i) j zero w s is h f = absurd (omega (arith, is))
follows_at next a b (suc i) j (suc k) w s is h f =
    let p = walk_parts next a b k w h in
    let inner : Follows (walks_along next (slice_index p.1 i) b j) (drop i p.1) s = subst (λ (u : List ℕ). Follows (walks_along next (slice_index u (suc i)) b j) (drop (suc i) u) s) (sym p.4) f in
    subst (λ (u : List ℕ). Follows (walks_along next a b (suc k)) u (take (suc i) u ++ s)) p.4
    (follows_step next a b p.0 k p.1 (take i p.1 ++ s) p.2 (follows_at next p.0 b i j k p.1 s (omega (arith, is)) p.3 inner))

-- ---- a turn of a walk

in_follows : (xs : List ℕ) (x y : ℕ) → Follows xs x y → Contains xs y
in_follows xs x y f = subst (λ (l : List ℕ). Contains l y) (sym f.is) (Contains-append_right f.front (x ∷ y ∷ f.back) y (in_rest x (y ∷ f.back) y (in_first y f.back)))

-- the tail from one place before
pub ends_before : (next : ℕ → List ℕ) (a b i j k : ℕ) (w : List ℕ) → suc i + j ≡ k → Contains (walks_along next a b k) w → IsLast (next (slice_index w i)) (slice_index w (suc i)) → IsLast (walks_along next (slice_index w (suc i)) b j) (drop (suc i) w)
    → IsLast (walks_along next (slice_index w i) b (suc j)) (drop i w)
ends_before next a b i j k w is h row tail =
    let lt : i < length w = omega (arith, is, walk_length next a b k w h) in
    rw (drop-cons w i 0 lt) (ends_step next (slice_index w i) b (slice_index w (suc i)) j (drop (suc i) w) row tail)

pub turn_follows : (next : ℕ → List ℕ) (a b i j k node : ℕ) (w : List ℕ) → suc i + j ≡ k → Contains (walks_along next a b k) w → Leads next b a k → Follows (next (slice_index w i)) (slice_index w (suc i)) node
    → IsLast (walks_along next (slice_index w (suc i)) b j) (drop (suc i) w) → Follows (walks_along next a b k) w (take (suc i) w ++ first_along next node j)
turn_follows next a b i j k node w is h leads row tail =
    let lt : i < length w = omega (arith, is, walk_length next a b k w h) in
    let on : Leads next b (slice_index w i) (suc j) = leads_at next a b i (suc j) k w (omega (arith, is)) h leads in
    let has : Contains (next (slice_index w i)) node = in_follows (next (slice_index w i)) (slice_index w (suc i)) node row in
    let f = follows_turn next (slice_index w i) b (slice_index w (suc i)) node j (drop (suc i) w) (first_along next node j) row tail (begins next node b j (on.1 node has)) in
    let g : Follows (walks_along next (slice_index w i) b (suc j)) (drop i w) (slice_index w i ∷ first_along next node j) = rw (drop-cons w i 0 lt) f in
    let whole : take (suc i) w ++ first_along next node j ≡ take i w ++ (slice_index w i ∷ first_along next node j) =
    ap (λ (u : List ℕ). u ++ first_along next node j) (ap (λ (n : ℕ). take n w) (sym (add-one i)) ∙ take_more w i 0 lt) ∙ append_assoc (take i w) (slice_index w i ∷ []) (first_along next node j) in
    rw whole (follows_at next a b i (suc j) k w (slice_index w i ∷ first_along next node j) (omega (arith, is)) h g)

-- ---- what a caller is told

pub moves_next : (ws : List (List ℕ)) (v w : List ℕ) → Ascends Before ws → Follows ws v w → Moves ws v w true
moves_next ws v w up f = record {
  next = λ _ i at.
      let whole = f.is in
      let here : slice_get ws (length f.front) ≡ Some v = ap (λ (l : List (List ℕ)). slice_get l (length f.front)) f.is ∙ get_seam f.front v (w ∷ f.back) in
      let place : i ≡ length f.front = one_place ws v i (length f.front) up at here in
      let long : length (f.front ++ v ∷ []) ≡ i + 1 = omega (arith, place, length-append f.front (v ∷ [])) in
      subst (λ (n : ℕ). slice_get ws n ≡ Some w) long
      (ap (λ (l : List (List ℕ)). slice_get l (length (f.front ++ v ∷ []))) (f.is ∙ sym (append_assoc f.front (v ∷ []) (w ∷ f.back))) ∙ get_seam (f.front ++ v ∷ []) w f.back);
  last = λ e. absurd cc;
  kept = λ e. absurd cc;
}

pub moves_last : (ws : List (List ℕ)) (v : List ℕ) → Ascends Before ws → IsLast ws v → Moves ws v v false
moves_last ws v up f = record {
  next = λ e. absurd cc;
  last = λ _ i at.
      let here : slice_get ws (length f.front) ≡ Some v = ap (λ (l : List (List ℕ)). slice_get l (length f.front)) f.is ∙ get_seam f.front v [] in
      let place : i ≡ length f.front = one_place ws v i (length f.front) up at here in
      omega (arith, place, ap length f.is, length-append f.front (v ∷ []));
  kept = λ _. refl;
}

-- ---- down to the target

-- The walk up to a place, and from there by first successors, stays what it is to become.
pub record Descends (next : ℕ → List ℕ) (b k from : ℕ) (old now : List ℕ) (i : ℕ) : Type 0 where
  pub long : length now ≡ k + 1
  pub leads : Leads next b (slice_index now i) (k - i)
  pub is : take i now ++ first_along next (slice_index now i) (k - i) ≡ take from old ++ first_along next (slice_index old from) (k - from)

pub descends_more : (next : ℕ → List ℕ) (b k from i : ℕ) (old now : List ℕ) → Descends next b k from old now i → i < k → Descends next b k from old (set now (i + 1) (slice_index (next (slice_index now i)) 0)) (i + 1)
descends_more next b k from i old now d lt =
    let j = k - (i + 1) in
    let e : k - i ≡ suc j = omega (arith, lt) in
    let c = slice_index (next (slice_index now i)) 0 in
    let leads : Leads next b (slice_index now i) (suc j) = subst (Leads next b (slice_index now i)) e d.leads in
    let within : i + 1 < length now = omega (arith, d.long, lt) in
    let here : slice_index (set now (i + 1) c) (i + 1) ≡ c = get_or-set_same now (i + 1) c 0 within in
    let front : take (i + 1) (set now (i + 1) c) ≡ take i now ++ slice_index now i ∷ [] = take-set-le (i + 1) now (i + 1) c (omega arith) ∙ take_more now i 0 (omega (arith, within)) in
    let was : take i now ++ (slice_index now i ∷ first_along next c j) ≡ take from old ++ first_along next (slice_index old from) (k - from) =
    subst (λ (n : ℕ). take i now ++ first_along next (slice_index now i) n ≡ take from old ++ first_along next (slice_index old from) (k - from)) e d.is in
    record {
      long = length-set now (i + 1) c ∙ d.long;
      leads = subst (λ (x : ℕ). Leads next b x j) (sym here) (leads.1 c (in_at (next (slice_index now i)) 0 leads.0));
      is = ap (λ (u : List ℕ). u ++ first_along next (slice_index (set now (i + 1) c) (i + 1)) j) front ∙ ap (λ (x : ℕ). (take i now ++ slice_index now i ∷ []) ++ first_along next x j) here
          ∙ append_assoc (take i now) (slice_index now i ∷ []) (first_along next c j) ∙ was;
    }

-- ---- a turn as the code finds it

pub turn_leads : (next : ℕ → List ℕ) (a b k p node : ℕ) (w : List ℕ) → Contains (walks_along next a b k) w → Leads next b a k → IsTurn next b k w p node → Leads next b node (k - p)
turn_leads next a b k p node w h leads t =
    let on : Leads next b (slice_index w (p - 1)) (suc (k - p)) = leads_at next a b (p - 1) (suc (k - p)) k w (omega (arith, t.later, t.within)) h leads in
    on.1 node (in_follows (next (slice_index w (p - 1))) (slice_index w p) node t.moves)

pub turn_moves : (next : ℕ → List ℕ) (a b k p node : ℕ) (w : List ℕ) → Contains (walks_along next a b k) w → Leads next b a k → IsTurn next b k w p node → Follows (walks_along next a b k) w (take p w ++ first_along next node (k - p))
turn_moves next a b k p node w h leads t =
    let i = p - 1 in
    let e : suc i ≡ p = omega (arith, t.later) in
    subst (λ (n : ℕ). Follows (walks_along next a b k) w (take n w ++ first_along next node (k - p))) e
    (turn_follows next a b i (k - p) k node w (omega (arith, t.later, t.within)) h leads
    (subst (λ (n : ℕ). Follows (next (slice_index w i)) (slice_index w n) node) (sym e) t.moves)
    (subst (λ (n : ℕ). IsLast (walks_along next (slice_index w n) b (k - p)) (drop n w)) (sym e) t.ends))
