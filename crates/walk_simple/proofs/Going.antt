-- A walk goes on from its last node.
use Rattle.std.proofs.Common.{◌≡◌, ◌≢◌, inl, inr, ℕ, zero, suc, ◌+◌, ◌-◌, ◌<◌, ◌≤◌, Bool, true, false, not, ◌==◌, List, [], ◌∷◌, ◌++◌, length, map, take, drop, refl, sym, ap, subst, ◌∙◌, arith, append_assoc, length-append, drop-cons, eq-eqb}
use Rattle.std.specs.Prelude.{slice_index}
use Rattle.std.specs.List.{Contains, list_any, filter}
use Rattle.walk_enum.proofs.Elements.{not_in_nothing, from_flat, from_map}
use Rattle.std.proofs.lemmas.List.{take_more, drop_all}
use Rattle.std.proofs.Math.Seq.{get_or-append_seam, take-length}
use Rattle.walk_enum.specs.Inner.Turns.{Follows, IsLast}
use Rattle.walk_simple.specs.SimpleWalks.{is_new, simple_along}
use Rattle.walk_simple.specs.Rooms.{WalkInRoom}
use Rattle.walk_simple.specs.Inner.Tables.{AreBounds, GoesOn, GoesFrom, IsBehind, walks_over, ways_at}
use Rattle.walk_simple.proofs.Walking.{by_node, over, is_end, no_end, no_steps, over_append, over_one, over_used, over_none, Parts, parts, some_left, starts, alone_cases}
use Rattle.walk_simple.proofs.Turning.{follows_inside, follows_turn, ends_turn}
use Rattle.walk_simple.proofs.Settling.{same_node}

pub apart_nodes : (a b : ℕ) → a ≢ b → (a == b) ≡ false
apart_nodes a b ne = by (a == b) refl
  where
    by : (t : Bool) → (a == b) ≡ t → t ≡ false
    by true e = absurd (ne (same_node a b e))
    by false e = refl

pub same_test : (a b : ℕ) → a ≡ b → (a == b) ≡ true
same_test a b e = eq-eqb a b e

-- the last node
pub last_is : (nodes used : List ℕ) (a : ℕ) → nodes ≡ used ++ a ∷ [] → slice_index nodes (length nodes - 1) ≡ a
last_is nodes used a is =
    let place : length nodes - 1 ≡ length used = omega (arith, ap length is, length-append used (a ∷ [])) in
    ap (slice_index nodes) place ∙ ap (λ (l : List ℕ). slice_index l (length used)) is ∙ get_or-append_seam used a [] 0

pub goes_same : (all other : List ℕ → ℕ → List (List ℕ)) (old new : WalkInRoom) (found : Bool) → ((used : List ℕ) (a : ℕ) → old.nodes ≡ used ++ a ∷ [] → other used a ≡ all used a) → GoesOn all old new found → GoesOn other old new found
goes_same all other old new found same g = record {
  room = g.room;
  some = λ e used a is. let r = g.some e used a is in (r.0, r.1, r.2, same used a is ∙ r.3);
  none = λ e used a is. same used a is ∙ g.none e used a is;
  kept = g.kept;
}

-- ---- at the end, and with no step left

pub goes_end : (next : ℕ → List ℕ) (to k : ℕ) (walk : WalkInRoom) → slice_index walk.nodes (length walk.nodes - 1) ≡ to → GoesOn (λ used a. simple_along next used a to k) walk walk true
goes_end next to k walk last = record {
  room = refl;
  some = λ e used a is. (a ∷ [], [], is, is_end next used a to k (same_test a to (sym (last_is walk.nodes used a is) ∙ last)));
  none = λ e. absurd cc;
  kept = λ e. refl;
}

pub goes_nowhere : (next : ℕ → List ℕ) (to : ℕ) (walk : WalkInRoom) → slice_index walk.nodes (length walk.nodes - 1) ≢ to → GoesOn (λ used a. simple_along next used a to 0) walk walk false
goes_nowhere next to walk last = record {
  room = refl;
  some = λ e. absurd cc;
  none = λ e used a is. no_steps next used a to (apart_nodes a to (λ same. last (last_is walk.nodes used a is ∙ same)));
  kept = λ e. refl;
}

pub goes_over : (next : ℕ → List ℕ) (to k j : ℕ) (old new : WalkInRoom) (found : Bool) → k ≡ suc j → slice_index old.nodes (length old.nodes - 1) ≢ to
    → GoesOn (λ used a. walks_over next to j (drop 0 (next a)) used a) old new found → GoesOn (λ used a. simple_along next used a to k) old new found
goes_over next to k j old new found is last g =
    subst (λ (n : ℕ). GoesOn (λ used a. simple_along next used a to n) old new found) (sym is)
    (goes_same (λ used a. walks_over next to j (drop 0 (next a)) used a) (λ used a. simple_along next used a to (suc j)) old new found
    (λ used a whole. no_end next used a to j (apart_nodes a to (λ same. last (last_is old.nodes used a whole ∙ same)))) g)

-- ---- over one node

pub step_far : (next : ℕ → List ℕ) (to k node : ℕ) (far : List ℕ) (walk : WalkInRoom) → AreBounds next to far → k < slice_index far node → GoesOn (λ used a. walks_over next to k (node ∷ []) used a) walk walk false
step_far next to k node far walk bounds lt = record {
  room = refl;
  some = λ e. absurd cc;
  none = λ e used a is. over_none next used a to k node (bounds node k (used ++ a ∷ []) lt);
  kept = λ e. refl;
}

pub step_has : (next : ℕ → List ℕ) (to k node : ℕ) (walk : WalkInRoom) → list_any (λ n. n == node) walk.nodes ≡ true → GoesOn (λ used a. walks_over next to k (node ∷ []) used a) walk walk false
step_has next to k node walk has = record {
  room = refl;
  some = λ e. absurd cc;
  none = λ e used a is. over_used next used a to k node (ap not (subst (λ (l : List ℕ). list_any (λ n. n == node) l ≡ true) is has));
  kept = λ e. refl;
}

pub step_found : (next : ℕ → List ℕ) (to k node : ℕ) (old pushed new : WalkInRoom) → list_any (λ n. n == node) old.nodes ≡ false → pushed.nodes ≡ old.nodes ++ node ∷ [] → pushed.room ≡ old.room
    → GoesOn (λ used a. simple_along next used a to k) pushed new true → GoesOn (λ used a. walks_over next to k (node ∷ []) used a) old new true
step_found next to k node old pushed new fresh push room g = record {
  room = g.room ∙ room;
  some = λ e used a is.
      let r = g.some refl (used ++ a ∷ []) node (push ∙ ap (λ (l : List ℕ). l ++ node ∷ []) is) in (
        a ∷ r.0,
        map (λ (w : List ℕ). a ∷ w) r.1,
        r.2 ∙ append_assoc used (a ∷ []) r.0,
        over_one next used a to k node (ap not (subst (λ (l : List ℕ). list_any (λ n. n == node) l ≡ false) is fresh)) ∙ ap (map (λ (w : List ℕ). a ∷ w)) r.3,
      );
  none = λ e. absurd cc;
  kept = λ e. absurd cc;
}

pub step_failed : (next : ℕ → List ℕ) (to k node : ℕ) (old pushed back cut : WalkInRoom) → pushed.nodes ≡ old.nodes ++ node ∷ [] → pushed.room ≡ old.room
    → GoesOn (λ used a. simple_along next used a to k) pushed back false → cut.nodes ≡ take (length old.nodes) back.nodes → cut.room ≡ back.room → GoesOn (λ used a. walks_over next to k (node ∷ []) used a) old cut false
step_failed next to k node old pushed back cut push room g nodes same = record {
  room = same ∙ g.room ∙ room;
  some = λ e. absurd cc;
  none = λ e used a is. over_none next used a to k node (g.none refl (used ++ a ∷ []) node (push ∙ ap (λ (l : List ℕ). l ++ node ∷ []) is));
  kept = λ e. nodes ∙ ap (take (length old.nodes)) (g.kept refl ∙ push) ∙ front old.nodes (node ∷ []);
}
  where
    front : (xs ys : List ℕ) → take (length xs) (xs ++ ys) ≡ xs
    front [] ys = refl
    front (x ∷ xs) ys = ap (λ (l : List ℕ). x ∷ l) (front xs ys)

-- ---- over a row

-- the ways over a row, from the one at a place on
pub row_parts : (next : ℕ → List ℕ) (to k i : ℕ) (row used : List ℕ) (a : ℕ) → i < length row
    → walks_over next to k (drop i row) used a ≡ walks_over next to k (slice_index row i ∷ []) used a ++ walks_over next to k (drop (i + 1) row) used a
row_parts next to k i row used a lt =
    ap (over next used a to k) (drop-cons row i 0 lt ∙ ap (λ (n : ℕ). slice_index row i ∷ drop n row) (next_one i)) ∙ over_append next used a to k (slice_index row i ∷ []) (drop (i + 1) row)
  where
    next_one : (i : ℕ) → suc i ≡ i + 1
    next_one i = omega arith

pub row_none : (next : ℕ → List ℕ) (to k i : ℕ) (row used : List ℕ) (a : ℕ) → length row ≤ i → walks_over next to k (drop i row) used a ≡ []
row_none next to k i row used a le = ap (over next used a to k) (drop_all i row le)

-- the last node's row
last_row : (next : ℕ → List ℕ) (nodes used row : List ℕ) (a : ℕ) → row ≡ next (slice_index nodes (length nodes - 1)) → nodes ≡ used ++ a ∷ [] → row ≡ next a
last_row next nodes used row a is whole = is ∙ ap next (last_is nodes used a whole)

pub record Tries (next : ℕ → List ℕ) (to k first : ℕ) (old now : WalkInRoom) (place : ℕ) : Type 0 where
  pub room : now.room ≡ old.room
  pub nodes : now.nodes ≡ old.nodes
  pub same : (used : List ℕ) (a : ℕ) → old.nodes ≡ used ++ a ∷ [] → walks_over next to k (drop first (next a)) used a ≡ walks_over next to k (drop place (next a)) used a

pub tries_none : (next : ℕ → List ℕ) (to k first : ℕ) (old : WalkInRoom) → Tries next to k first old old first
tries_none next to k first old = record { room = refl; nodes = refl; same = λ used a is. refl }

pub tries_more : (next : ℕ → List ℕ) (to k first place node : ℕ) (old now new : WalkInRoom) (row : List ℕ) → Tries next to k first old now place → row ≡ next (slice_index old.nodes (length old.nodes - 1)) → place < length row → node ≡ slice_index row place
    → GoesOn (λ used a. walks_over next to k (node ∷ []) used a) now new false → Tries next to k first old new (place + 1)
tries_more next to k first place node old now new row t is lt at g = record {
  room = g.room ∙ t.room;
  nodes = g.kept refl ∙ t.nodes;
  same = λ used a whole.
      let own : row ≡ next a = last_row next old.nodes used row a is whole in
      let none : walks_over next to k (slice_index row place ∷ []) used a ≡ [] = subst (λ (n : ℕ). walks_over next to k (n ∷ []) used a ≡ []) at (g.none refl used a (t.nodes ∙ whole)) in
      t.same used a whole ∙ ap (λ (l : List ℕ). walks_over next to k (drop place l) used a) (sym own) ∙ row_parts next to k place row used a lt
      ∙ ap (λ (ws : List (List ℕ)). ws ++ walks_over next to k (drop (place + 1) row) used a) none ∙ ap (λ (l : List ℕ). walks_over next to k (drop (place + 1) l) used a) own;
}

pub tries_found : (next : ℕ → List ℕ) (to k first place node : ℕ) (old now new : WalkInRoom) (row : List ℕ) → Tries next to k first old now place → row ≡ next (slice_index old.nodes (length old.nodes - 1)) → place < length row → node ≡ slice_index row place
    → GoesOn (λ used a. walks_over next to k (node ∷ []) used a) now new true → GoesOn (λ used a. walks_over next to k (drop first (next a)) used a) old new true
tries_found next to k first place node old now new row t is lt at g = record {
  room = g.room ∙ t.room;
  some = λ e used a whole.
      let own : row ≡ next a = last_row next old.nodes used row a is whole in
      let r = g.some refl used a (t.nodes ∙ whole) in (
        r.0,
        r.1 ++ walks_over next to k (drop (place + 1) row) used a,
        r.2,
        t.same used a whole ∙ ap (λ (l : List ℕ). walks_over next to k (drop place l) used a) (sym own) ∙ row_parts next to k place row used a lt
            ∙ ap (λ (ws : List (List ℕ)). ws ++ walks_over next to k (drop (place + 1) row) used a) (ap (λ (n : ℕ). walks_over next to k (n ∷ []) used a) (sym at) ∙ r.3),
      );
  none = λ e. absurd cc;
  kept = λ e. absurd cc;
}

pub tries_all : (next : ℕ → List ℕ) (to k first place : ℕ) (old now : WalkInRoom) (row : List ℕ) → Tries next to k first old now place → row ≡ next (slice_index old.nodes (length old.nodes - 1)) → length row ≤ place
    → GoesOn (λ used a. walks_over next to k (drop first (next a)) used a) old now false
tries_all next to k first place old now row t is le = record {
  room = t.room;
  some = λ e. absurd cc;
  none = λ e used a whole.
      let own : row ≡ next a = last_row next old.nodes used row a is whole in
      t.same used a whole ∙ ap (λ (l : List ℕ). walks_over next to k (drop place l) used a) (sym own) ∙ row_none next to k place row used a le;
  kept = λ e. t.nodes;
}

-- ---- from a place on

-- what is known of a walk that stands among the ways on from a place
pub record Stands (next : ℕ → List ℕ) (b k place : ℕ) (nodes : List ℕ) : Type 0 where
  pub left : 1 ≤ k
  pub apart : (slice_index nodes place == b) ≡ false
  pub has : Contains (next (slice_index nodes place)) (slice_index nodes (place + 1))
  pub fresh : is_new (take place nodes ++ slice_index nodes place ∷ []) (slice_index nodes (place + 1)) ≡ true
  pub there : Contains (ways_at next b (k - 1) nodes (place + 1)) (drop (place + 1) nodes)

drop_place : (nodes : List ℕ) (place : ℕ) → place < length nodes → drop place nodes ≡ slice_index nodes place ∷ drop (place + 1) nodes
drop_place nodes place lt = drop-cons nodes place 0 lt ∙ ap (λ (n : ℕ). slice_index nodes place ∷ drop n nodes) (one_more place)
  where
    one_more : (i : ℕ) → suc i ≡ i + 1
    one_more i = omega arith

take_place : (nodes : List ℕ) (place : ℕ) → place < length nodes → take (place + 1) nodes ≡ take place nodes ++ slice_index nodes place ∷ []
take_place nodes place lt = take_more nodes place 0 lt

long_drop : (nodes : List ℕ) (n : ℕ) → n < length nodes → 0 < length (drop n nodes)
long_drop [] n lt = absurd (omega (arith, lt))
long_drop (x ∷ xs) zero lt = omega arith
long_drop (x ∷ xs) (suc n) lt = long_drop xs n (omega (arith, lt))

index_drop : (nodes : List ℕ) (n : ℕ) → slice_index (drop n nodes) 0 ≡ slice_index nodes n
index_drop [] zero = refl
index_drop [] (suc n) = refl
index_drop (x ∷ xs) zero = refl
index_drop (x ∷ xs) (suc n) = index_drop xs n

pub stands : (next : ℕ → List ℕ) (b k place : ℕ) (nodes : List ℕ) → place + 1 < length nodes → Contains (ways_at next b k nodes place) (drop place nodes) → Stands next b k place nodes
stands next b k place nodes lt h =
    let a = slice_index nodes place in
    let w = drop (place + 1) nodes in
    let used = take place nodes in
    let some : 0 < length w = long_drop nodes (place + 1) lt in
    let whole : Contains (simple_along next used a b k) (a ∷ w) = subst (Contains (simple_along next used a b k)) (drop_place nodes place (omega (arith, lt))) h in
    let left : 1 ≤ k = some_left next used a b k w whole some in
    let is : k ≡ suc (k - 1) = omega (arith, left) in
    let p : Parts next used a b (k - 1) w = parts next used a b (k - 1) w (subst (λ (n : ℕ). Contains (simple_along next used a b n) (a ∷ w)) is whole) some in
    let first : slice_index w 0 ≡ slice_index nodes (place + 1) = index_drop nodes (place + 1) in
    record {
      left = left;
      apart = p.apart;
      has = subst (Contains (next a)) first p.has;
      fresh = subst (λ (c : ℕ). is_new (used ++ a ∷ []) c ≡ true) first p.fresh;
      there = subst (λ (u : List ℕ). Contains (simple_along next u (slice_index nodes (place + 1)) b (k - 1)) w) (sym (take_place nodes place (omega (arith, lt))))
          (subst (λ (c : ℕ). Contains (simple_along next (used ++ a ∷ []) c b (k - 1)) w) first p.rest);
    }

-- at the target
pub from_end : (next : ℕ → List ℕ) (b k place : ℕ) (walk : WalkInRoom) → place + 1 ≡ length walk.nodes → Contains (ways_at next b k walk.nodes place) (drop place walk.nodes) → GoesFrom next b k place walk walk false
from_end next b k place walk long h = record {
  room = refl;
  some = λ e. absurd cc;
  none = λ e. subst (IsLast (ways_at next b k walk.nodes place)) (sym alone) (only k (subst (Contains (ways_at next b k walk.nodes place)) alone h));
  cut = λ e. sym (ap (λ (n : ℕ). take n walk.nodes) long ∙ take-length walk.nodes);
}
  where
    a : ℕ
    a = slice_index walk.nodes place

    used : List ℕ
    used = take place walk.nodes

    alone : drop place walk.nodes ≡ a ∷ []
    alone = drop_place walk.nodes place (omega (arith, long)) ∙ ap (λ (l : List ℕ). a ∷ l) (drop_all (place + 1) walk.nodes (omega (arith, long)))

    no_walk : {P : Type 0} (c j : ℕ) (w : List ℕ) → (a ∷ w) ≡ (a ∷ []) → Contains (simple_along next (used ++ a ∷ []) c b j) w → P
    no_walk c j w is has = let s = starts next (used ++ a ∷ []) c b j w has in absurd (omega (arith, ap length is, ap length s.1))

    ends : (j : ℕ) → (a == b) ≡ true → IsLast (simple_along next used a b j) (a ∷ [])
    ends j e = record { front = []; is = is_end next used a b j e }

    only : (j : ℕ) → Contains (simple_along next used a b j) (a ∷ []) → IsLast (simple_along next used a b j) (a ∷ [])
    only zero has = elim (alone_cases (a == b) (a ∷ []) [] (a ∷ []) has) [ inl e ↦ ends zero e.0 | inr e ↦ not_in_nothing (a ∷ []) e.1 ]
    only (suc j) has = elim (alone_cases (a == b) (a ∷ []) (over next used a b j (next a)) (a ∷ []) has) [
      | inl e ↦ ends (suc j) e.0
      | inr e ↦
          let p = from_flat (by_node next used a b j) (filter (is_new (used ++ a ∷ [])) (next a)) (a ∷ []) e.1 in
          let q = from_map (λ w. a ∷ w) (simple_along next (used ++ a ∷ []) p.0 b j) (a ∷ []) p.2 in
          no_walk p.0 j q.0 q.2 q.1
    ]

-- the walk behind a place moves
pub from_behind : (next : ℕ → List ℕ) (b k place : ℕ) (old new : WalkInRoom) → place + 1 < length old.nodes → Stands next b k place old.nodes → GoesFrom next b (k - 1) (place + 1) old new true → GoesFrom next b k place old new true
from_behind next b k place old new lt s g = record {
  room = g.room;
  some = λ e.
      let r = g.some refl in (
        a ∷ r.0,
        r.1 ∙ ap (λ (u : List ℕ). u ++ r.0) front ∙ append_assoc used (a ∷ []) r.0,
        subst (λ (l : List ℕ). Follows (simple_along next used a b k) l (a ∷ r.0)) (sym (drop_place old.nodes place (omega (arith, lt))))
            (subst (λ (n : ℕ). Follows (simple_along next used a b n) (a ∷ drop (place + 1) old.nodes) (a ∷ r.0)) (sym is)
            (follows_inside next used a b (k - 1) c (drop (place + 1) old.nodes) r.0 s.apart s.has s.fresh (subst (λ (u : List ℕ). Follows (simple_along next u c b (k - 1)) (drop (place + 1) old.nodes) r.0) front r.2))),
      );
  none = λ e. absurd cc;
  cut = λ e. absurd cc;
}
  where
    a : ℕ
    a = slice_index old.nodes place

    c : ℕ
    c = slice_index old.nodes (place + 1)

    used : List ℕ
    used = take place old.nodes

    front : take (place + 1) old.nodes ≡ used ++ a ∷ []
    front = take_place old.nodes place (omega (arith, lt))

    is : k ≡ suc (k - 1)
    is = omega (arith, s.left)

take_twice : (n m : ℕ) (xs : List ℕ) → n ≤ m → take n (take m xs) ≡ take n xs
take_twice zero m xs le = refl
take_twice (suc n) zero xs le = absurd (omega (arith, le))
take_twice (suc n) (suc m) [] le = refl
take_twice (suc n) (suc m) (x ∷ xs) le = ap (λ (l : List ℕ). x ∷ l) (take_twice n m xs (omega (arith, le)))

-- the walk turns at a place, or it was the last
module _ (next : ℕ → List ℕ) (b k place first : ℕ) (old back cut new : WalkInRoom) (lt : place + 1 < length old.nodes) (s : Stands next b k place old.nodes) (g : GoesFrom next b (k - 1) (place + 1) old back false)
    (behind : IsBehind (next (slice_index old.nodes place)) (slice_index old.nodes (place + 1)) first) (nodes : cut.nodes ≡ take (place + 1) back.nodes) (room : cut.room ≡ back.room) where
  abbrev pub a_here : ℕ
  a_here = slice_index old.nodes place

  abbrev pub c_here : ℕ
  c_here = slice_index old.nodes (place + 1)

  abbrev pub used_here : List ℕ
  used_here = take place old.nodes

  abbrev pub v_here : List ℕ
  v_here = drop (place + 1) old.nodes

  front : take (place + 1) old.nodes ≡ used_here ++ a_here ∷ []
  front = take_place old.nodes place (omega (arith, lt))

  is : k ≡ suc (k - 1)
  is = omega (arith, s.left)

  pub cut_is : cut.nodes ≡ used_here ++ a_here ∷ []
  cut_is = nodes ∙ ap (take (place + 1)) (g.cut refl) ∙ take_twice (place + 1) (place + 1 + 1) old.nodes (omega arith) ∙ front

  ends : IsLast (simple_along next (used_here ++ a_here ∷ []) c_here b (k - 1)) v_here
  ends = subst (λ (u : List ℕ). IsLast (simple_along next u c_here b (k - 1)) v_here) front (g.none refl)

  whole : drop place old.nodes ≡ a_here ∷ v_here
  whole = drop_place old.nodes place (omega (arith, lt))

  pub from_turn : (found : Bool) → GoesOn (λ used a. walks_over next b (k - 1) (drop first (next a)) used a) cut new found → GoesFrom next b k place old new found
  from_turn found e = record {
    room = e.room ∙ room ∙ g.room;
    some = λ t.
        let r = e.some t used_here a_here cut_is in (
          r.0,
          r.2,
          subst (λ (l : List ℕ). Follows (simple_along next used_here a_here b k) l r.0) (sym whole)
              (subst (λ (n : ℕ). Follows (simple_along next used_here a_here b n) (a_here ∷ v_here) r.0) (sym is)
              (follows_turn next used_here a_here b (k - 1) c_here v_here r.0 behind.front (drop first (next a_here)) r.1 s.apart s.fresh behind.is ends r.3)),
        );
    none = λ t.
        subst (IsLast (simple_along next used_here a_here b k)) (sym whole)
        (subst (λ (n : ℕ). IsLast (simple_along next used_here a_here b n) (a_here ∷ v_here)) (sym is)
        (ends_turn next used_here a_here b (k - 1) c_here v_here behind.front (drop first (next a_here)) s.apart s.fresh behind.is ends (e.none t used_here a_here cut_is)));
    cut = λ t. e.kept t ∙ cut_is ∙ sym front;
  }

pub long_take : (n : ℕ) (xs : List ℕ) → n ≤ length xs → length (take n xs) ≡ n
long_take zero xs le = refl
long_take (suc n) [] le = absurd (omega (arith, le))
long_take (suc n) (x ∷ xs) le = ap suc (long_take n xs (omega (arith, le)))
