-- The walk that so many come before.
use Rattle.std.proofs.Common.{◌≡◌, ℕ, zero, suc, ◌+◌, ◌-◌, ◌^◌, ◌<◌, ◌≤◌, List, [], ◌∷◌, ◌++◌, length, take, drop, set, refl, sym, ap, subst, ◌∙◌, arith, Some, slice_get, length-append, append_assoc, get_or-set_same}
use Rattle.std.specs.Prelude.{slice_index, option_map, replicate}
use Rattle.std.specs.List.{Contains, flat_map}
use Rattle.std.proofs.Math.ListN.{length-set}
use Rattle.std.proofs.lemmas.List.{length-map, length-replicate, take_all, take_more, take-append-drop, take-set-le, get_or-replicate}
use Rattle.std.proofs.lemmas.List.Elements.{Contains-append_left, Contains-append_right}
use Rattle.std.proofs.lemmas.Option.{slice_get-map}
use Rattle.walk_enum.specs.Walks.{walks_along}
use Rattle.walk_enum.specs.Inner.Counting.{AreCounts, IsWay, capped, total}
use Rattle.walk_enum.specs.Inner.Turns.{Leads}
use Rattle.walk_enum.proofs.Along.{by_step, walk_alone}
use Rattle.walk_enum.proofs.Elements.{in_first}
use Rattle.walk_enum.proofs.WalkCounts.{sum_same, walks_sum, ways_same}

-- ---- lists one after another

front_get : {X : Type 0} (xs ys : List X) (j : ℕ) → j < length xs → slice_get (xs ++ ys) j ≡ slice_get xs j
front_get [] ys j lt = absurd (omega (arith, lt))
front_get (x ∷ xs) ys zero lt = refl
front_get (x ∷ xs) ys (suc j) lt = front_get xs ys j (omega (arith, lt))

back_get : {X : Type 0} (xs ys : List X) (n j : ℕ) → n ≡ length xs + j → slice_get (xs ++ ys) n ≡ slice_get ys j
back_get [] ys n j is = let e : n ≡ j = omega (arith, is) in ap (slice_get ys) e
back_get (x ∷ xs) ys zero j is = absurd (omega (arith, is))
back_get (x ∷ xs) ys (suc n) j is = back_get xs ys n j (omega (arith, is))

-- an element of the lists of an element
part_get : {X : Type 0} (f : ℕ → List X) (front : List ℕ) (node : ℕ) (back : List ℕ) (n left : ℕ) → n ≡ length (flat_map f front) + left → left < length (f node)
    → slice_get (flat_map f (front ++ node ∷ back)) n ≡ slice_get (f node) left
part_get f [] node back n left is less = let e : n ≡ left = omega (arith, is) in ap (slice_get (f node ++ flat_map f back)) e ∙ front_get (f node) (flat_map f back) left less
part_get f (x ∷ front) node back n left is less =
    let both = length-append (f x) (flat_map f front) in
    back_get (f x) (flat_map f (front ++ node ∷ back)) n (length (flat_map f front) + left) (omega (arith, is, both))
    ∙ part_get f front node back (length (flat_map f front) + left) left refl less

-- ---- a way

-- so many come before it by the nodes that were passed, and it goes by one of the others
pub record IsAmong (number : ℕ → ℕ) (row : List ℕ) (before place left : ℕ) : Type 0 where
  pub sum : before ≡ total number (take place row) + left
  pub less : left < total number (drop place row)

total-append : (f : ℕ → ℕ) (xs ys : List ℕ) → total f (xs ++ ys) ≡ total f xs + total f ys
total-append f [] ys = omega arith
total-append f (x ∷ xs) ys = let rest = total-append f xs ys in omega (arith, rest)

module _ (number : ℕ → ℕ) (row : List ℕ) (before place left node : ℕ) (among : IsAmong number row before place left) (rest : List ℕ) (is : drop place row ≡ node ∷ rest) where
  pub among_way : left < number node → IsWay number row before node left
  among_way less = record { front = take place row; back = rest; is = sym (take-append-drop place row) ∙ ap (λ (l : List ℕ). take place row ++ l) is; sum = among.sum; less = less }

  pub among_more : (after : ℕ) → number node ≤ left → take after row ≡ take place row ++ node ∷ [] → drop after row ≡ rest → IsAmong number row before after (left - number node)
  among_more after le front back =
      let sum_front : total number (take after row) ≡ total number (take place row) + (number node + 0) = ap (total number) front ∙ total-append number (take place row) (node ∷ []) in
      let all : total number (drop place row) ≡ number node + total number rest = ap (total number) is in
      let others : total number (drop after row) ≡ total number rest = ap (total number) back in
      record { sum = omega (arith, among.sum, sum_front, le); less = omega (arith, among.less, all, others, le) }

-- ---- the walk by a way

module _ (next : ℕ → List ℕ) (to : ℕ) (counts : List ℕ) (are : AreCounts next to counts) (a k before : ℕ) (few : before < 2 ^ 64 - 1) (leads : Leads next to a (suc k)) where
  each : (c : ℕ) → Contains (next a) c → slice_index counts c ≡ capped (length (walks_along next c to k))
  each c has = are c k (leads.1 c has)

  -- there is a way
  pub way_there : before < length (walks_along next a to (suc k)) → before < total (slice_index counts) (next a)
  way_there there =
      let sum = walks_sum next a to k (next a) in
      let same = ways_same (slice_index counts) (λ c. length (walks_along next c to k)) (next a) each in
      omega (arith, there, sum, same, few)

  module _ (node left : ℕ) (way : IsWay (slice_index counts) (next a) before node left) where
    in_row : Contains (next a) node
    in_row = subst (λ (l : List ℕ). Contains l node) (sym way.is) (Contains-append_right way.front (node ∷ way.back) node (in_first node way.back))

    pub way_leads : Leads next to node k
    way_leads = leads.1 node in_row

    pub way_less : left < length (walks_along next node to k)
    way_less = let here = each node in_row in let less = way.less in omega (arith, here, less)

    pub way_walk : (rest : List ℕ) → slice_get (walks_along next node to k) left ≡ Some rest → slice_get (walks_along next a to (suc k)) before ≡ Some (a ∷ rest)
    way_walk rest is =
        let front_few : total (slice_index counts) way.front < 2 ^ 64 - 1 = omega (arith, way.sum, few) in
        let sum = sum_same (slice_index counts) (λ c. length (walks_along next c to k)) way.front (λ c has. each c (subst (λ (l : List ℕ). Contains l c) (sym way.is) (Contains-append_left way.front (node ∷ way.back) c has))) front_few in
        let long = walks_sum next a to k way.front in
        let steps = length-map (walks_along next node to k) (λ w. a ∷ w) in
        ap (λ (l : List ℕ). slice_get (flat_map (by_step next a to k) l) before) way.is
        ∙ part_get (by_step next a to k) way.front node way.back before left (omega (arith, way.sum, sum, long)) (omega (arith, way_less, steps))
        ∙ slice_get-map (λ w. a ∷ w) (walks_along next node to k) left ∙ ap (option_map (λ w. a ∷ w)) is

-- ---- the walk, node by node

-- The walk that so many come before begins as a walk does up to a place; from there on it is one that so many are left before.
pub record Follows (next : ℕ → List ℕ) (to k : ℕ) (all : List (List ℕ)) (before : ℕ) (now : List ℕ) (place left : ℕ) : Type 0 where
  pub long : length now ≡ k + 1
  pub leads : Leads next to (slice_index now place) (k - place)
  pub few : left < 2 ^ 64 - 1
  pub less : left < length (walks_along next (slice_index now place) to (k - place))
  pub is : (rest : List ℕ) → slice_get (walks_along next (slice_index now place) to (k - place)) left ≡ Some rest → slice_get all before ≡ Some (take place now ++ rest)

pub follows_first : (next : ℕ → List ℕ) (to k from before : ℕ) (now : List ℕ) → Leads next to from k → before < 2 ^ 64 - 1 → before < length (walks_along next from to k) → now ≡ replicate (k + 1) from
    → Follows next to k (walks_along next from to k) before now 0 before
follows_first next to k from before now leads few less stays =
    let here : slice_index now 0 ≡ from = ap (λ (w : List ℕ). slice_index w 0) stays ∙ get_or-replicate (k + 1) 0 from 0 (omega arith) in
    let all : k ≡ k - 0 = omega arith in
    let Q : ℕ → ℕ → Type 0 = λ a j. (Leads next to a j) × (before < length (walks_along next a to j)) × ((rest : List ℕ) → slice_get (walks_along next a to j) before ≡ Some rest → slice_get (walks_along next from to k) before ≡ Some rest) in
    let q : Q (slice_index now 0) (k - 0) = subst (λ (a : ℕ). Q a (k - 0)) (sym here) (subst (Q from) all (leads, less, λ rest is. is)) in
    record { long = ap length stays ∙ length-replicate (k + 1) from; leads = q.0; few = few; less = q.1; is = q.2 }

module _ (next : ℕ → List ℕ) (to k : ℕ) (counts : List ℕ) (are : AreCounts next to counts) (all : List (List ℕ)) (before place left : ℕ) (now : List ℕ) (f : Follows next to k all before now place left) where
  -- the walk is at its end
  pub follows_end : place ≡ k → slice_get all before ≡ Some now
  follows_end at =
      let none : k - place ≡ 0 = omega (arith, at) in
      let a = slice_index now place in
      let is_to : Leads next to a 0 = subst (Leads next to a) none f.leads in
      let one : walks_along next a to (k - place) ≡ (a ∷ []) ∷ [] = ap (walks_along next a to) none ∙ walk_alone next a to is_to in
      let first : left ≡ 0 = omega (arith, f.less, ap length one) in
      let last : now ≡ take place now ++ a ∷ [] = sym (take_all (place + 1) now (omega (arith, f.long, at))) ∙ take_more now place 0 (omega (arith, f.long, at)) in
      f.is (a ∷ []) (ap (λ (ws : List (List ℕ)). slice_get ws left) one ∙ ap (slice_get ((a ∷ []) ∷ [])) first) ∙ ap Some (sym last)

  module _ (lt : place < k) where
    steps : k - place ≡ suc (k - (place + 1))
    steps = omega (arith, lt)

    on : Leads next to (slice_index now place) (suc (k - (place + 1)))
    on = subst (Leads next to (slice_index now place)) steps f.leads

    pub follows_way : left < total (slice_index counts) (next (slice_index now place))
    follows_way = way_there next to counts are (slice_index now place) (k - (place + 1)) left f.few on (subst (λ (j : ℕ). left < length (walks_along next (slice_index now place) to j)) steps f.less)

    pub follows_more : (node after : ℕ) → IsWay (slice_index counts) (next (slice_index now place)) left node after → Follows next to k all before (set now (place + 1) node) (place + 1) after
    follows_more node after way =
        let a = slice_index now place in
        let j = k - (place + 1) in
        let new = set now (place + 1) node in
        let within : place + 1 < length now = omega (arith, f.long, lt) in
        let here : slice_index new (place + 1) ≡ node = get_or-set_same now (place + 1) node 0 within in
        let front : take (place + 1) new ≡ take place now ++ a ∷ [] = take-set-le (place + 1) now (place + 1) node (omega arith) ∙ take_more now place 0 (omega (arith, within)) in
        let Q : ℕ → Type 0 = λ x. (Leads next to x j) × (after < length (walks_along next x to j)) × ((rest : List ℕ) → slice_get (walks_along next x to j) after ≡ Some rest → slice_get all before ≡ Some (take (place + 1) new ++ rest)) in
        let q : Q node = (
          way_leads next to counts are a j left f.few on node after way,
          way_less next to counts are a j left f.few on node after way,
          λ rest is.
              f.is (a ∷ rest) (ap (λ (n : ℕ). slice_get (walks_along next a to n) left) steps ∙ way_walk next to counts are a j left f.few on node after way rest is)
              ∙ ap Some (sym (append_assoc (take place now) (a ∷ []) rest) ∙ ap (λ (l : List ℕ). l ++ rest) (sym front)),
        ) in
        let p : Q (slice_index new (place + 1)) = subst Q (sym here) q in
        record { long = length-set now (place + 1) node ∙ f.long; leads = p.0; few = omega (arith, f.few, way.sum); less = p.1; is = p.2 }
