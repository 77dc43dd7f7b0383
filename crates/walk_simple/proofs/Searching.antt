-- A search from a node, one node asked after another.
use Rattle.std.proofs.Common.{◌≡◌, inl, inr, ℕ, zero, suc, ◌+◌, ◌<◌, ◌≤◌, List, [], ◌∷◌, ◌++◌, length, set, replicate, sym, ap, subst, ◌∙◌, arith, get_or-set_same, append_assoc, append-nil, length-append}
use Rattle.std.specs.Prelude.{slice_index}
use Rattle.std.specs.List.{Contains}
use Rattle.std.proofs.lemmas.Bool.{cases_lt}
use Rattle.std.proofs.lemmas.List.{get_or_append_left, length-replicate}
use Rattle.std.proofs.lemmas.List.Elements.{Contains-append_cases, Contains-append_left, Contains-append_right, Contains-get_or}
use Rattle.std.proofs.Math.ListN.{length-set}
use Rattle.walk_enum.specs.Inner.Turns.{row_of}
use Rattle.walk_enum.specs.Inner.Exploring.{some_count, Spreads}
use Rattle.walk_enum.proofs.Elements.{not_in_nothing, in_cases, in_first}
use Rattle.walk_enum.proofs.Exploring.{at_place}
use Rattle.walk_enum.proofs.Spreading.{set_cases, count_set, count_within, count_none, none_there}
use Rattle.walk_enum.proofs.Cuts.{row_cases}
use Rattle.walk_simple.specs.Inner.Searching.{Comes, Covers, Searches, Reaches, IsGrown}

one_only : (x b : ℕ) → Contains (x ∷ []) b → x ≡ b
one_only x b h = elim (in_cases x [] b h) [ inl e ↦ e | inr none ↦ not_in_nothing b none ]

pub searches_start : (next : ℕ → List ℕ) (nodes from : ℕ) (marks : List ℕ) (rows : List (List ℕ)) → 1 ≤ from → from ≤ nodes → marks ≡ set (replicate (nodes + 1) 0) from 1 → length rows ≡ nodes + 1 → ((a : ℕ) → row_of rows a ≡ [])
    → Searches next nodes marks (from ∷ []) rows 0
searches_start next nodes from marks rows low high is long empty = record {
  size = ap length is ∙ length-set (replicate (nodes + 1) 0) from 1 ∙ length-replicate {A = ℕ} (nodes + 1) 0;
  long = long;
  count = sym (ap some_count is ∙ count_set (replicate (nodes + 1) 0) from 1 within (none_there (nodes + 1) from) (omega arith) ∙ ap (λ (n : ℕ). n + 1) (count_none (nodes + 1)));
  listed = λ b some. elim (set_cases (replicate (nodes + 1) 0) from 1 b within) [
    | inl e ↦ subst (Contains (from ∷ [])) e.0 (in_first from [])
    | inr e ↦ absurd (omega (arith, ap (λ (l : List ℕ). slice_index l b) is, e, none_there (nodes + 1) b, some))
  ];
  range = λ b has. (omega (arith, one_only from b has, low), omega (arith, one_only from b has, high));
  asked = λ i lt. absurd (omega (arith, lt));
  closed = λ i lt. absurd (omega (arith, lt));
  each = λ b. inl (empty b);
  within = omega arith;
}
  where
    within : from < length {A = ℕ} (replicate (nodes + 1) 0)
    within = omega (arith, length-replicate {A = ℕ} (nodes + 1) 0, high)

-- no more are found than there are nodes
pub queue_small : (next : ℕ → List ℕ) (nodes : ℕ) (marks queue : List ℕ) (rows : List (List ℕ)) (head : ℕ) → Searches next nodes marks queue rows head → length queue ≤ nodes
queue_small next nodes marks queue rows head s = by marks s.size (λ some. (s.range 0 (s.listed 0 some)).0) s.count
  where
    by : (ds : List ℕ) → length ds ≡ nodes + 1 → (1 ≤ slice_index ds 0 → 1 ≤ 0) → length queue ≡ some_count ds → length queue ≤ nodes
    by [] long none count = absurd (omega (arith, long))
    by (zero ∷ ds) long none count = omega (arith, long, count, count_within ds)
    by (suc d ∷ ds) long none count = absurd (omega (arith, none (omega arith)))

-- the node at a place of the queue
pub node_fits : (next : ℕ → List ℕ) (nodes : ℕ) (marks queue : List ℕ) (rows : List (List ℕ)) (head i : ℕ) → Searches next nodes marks queue rows head → i < length queue → (1 ≤ slice_index queue i) × (slice_index queue i ≤ nodes)
node_fits next nodes marks queue rows head i s lt = s.range (slice_index queue i) (Contains-get_or queue i 0 lt)

-- one node more is asked
pub searches_more : (next : ℕ → List ℕ) (nodes : ℕ) (old new queue_old queue_new : List ℕ) (rows : List (List ℕ)) (head : ℕ) → Searches next nodes old queue_old rows head → head < length queue_old
    → ((a b : ℕ) → Contains (next a) b → (1 ≤ b) × (b ≤ nodes)) → Spreads old new queue_old queue_new (next (slice_index queue_old head)) 1
    → Searches next nodes new queue_new (set rows (slice_index queue_old head) (next (slice_index queue_old head))) (head + 1)
searches_more next nodes old new queue_old queue_new rows head s lt fit spreads = record {
  size = spreads.same_length ∙ s.size;
  long = length-set rows x (next x) ∙ s.long;
  count = omega (arith, ap length spreads.grown, length-append queue_old spreads.more, s.count, spreads.count);
  listed = λ b some. elim (spreads.cases b some) [
    | inl was ↦ keep b (s.listed b was)
    | inr new ↦ subst (λ (q : List ℕ). Contains q b) (sym spreads.grown) (Contains-append_right queue_old spreads.more b new)
  ];
  range = λ b has. elim (Contains-append_cases queue_old spreads.more b (subst (λ (q : List ℕ). Contains q b) spreads.grown has)) [
    | inl was ↦ s.range b was
    | inr new ↦ fit x b (spreads.fresh b new)
  ];
  asked = λ i less. elim (cases_lt i head) [
    | inl before ↦ elim (row_cases rows x (next x) (slice_index queue_new i) inside) [
      | inl e ↦ e.1 ∙ ap next e.0
      | inr e ↦ e ∙ ap (row_of rows) (same i (omega (arith, before, lt))) ∙ s.asked i before ∙ ap next (sym (same i (omega (arith, before, lt))))
    ]
    | inr past ↦
        let is : head ≡ i = omega (arith, less, past) in
        let here : x ≡ slice_index queue_new i = sym (same head lt) ∙ ap (slice_index queue_new) is in
        subst (λ (n : ℕ). row_of (set rows x (next x)) n ≡ next n) here (get_or-set_same rows x (next x) [] inside)
  ];
  closed = λ i less b has. elim (cases_lt i head) [
    | inl before ↦ keep b (s.closed i before b (subst (λ (n : ℕ). Contains (next n) b) (same i (omega (arith, before, lt))) has))
    | inr past ↦
        let is : i ≡ head = omega (arith, less, past) in
        let here : slice_index queue_new i ≡ x = ap (slice_index queue_new) is ∙ same head lt in
        found b (subst (λ (n : ℕ). Contains (next n) b) here has)
  ];
  each = λ b. elim (row_cases rows x (next x) b inside) [
    | inl e ↦ inr (e.1 ∙ ap next e.0)
    | inr e ↦ elim (s.each b) [ inl f ↦ inl (e ∙ f) | inr f ↦ inr (e ∙ f) ]
  ];
  within = omega (arith, lt, ap length spreads.grown, length-append queue_old spreads.more);
}
  where
    x : ℕ
    x = slice_index queue_old head

    inside : x < length rows
    inside = omega (arith, s.long, (node_fits next nodes old queue_old rows head head s lt).1)

    same : (i : ℕ) → i < length queue_old → slice_index queue_new i ≡ slice_index queue_old i
    same i less = ap (λ (q : List ℕ). slice_index q i) spreads.grown ∙ get_or_append_left queue_old spreads.more 0 i less

    keep : (b : ℕ) → Contains queue_old b → Contains queue_new b
    keep b has = subst (λ (q : List ℕ). Contains q b) (sym spreads.grown) (Contains-append_left queue_old spreads.more b has)

    found : (b : ℕ) → Contains (next x) b → Contains queue_new b
    found b has = elim (spreads.cases b (spreads.all b has)) [
      | inl was ↦ keep b (s.listed b was)
      | inr new ↦ subst (λ (q : List ℕ). Contains q b) (sym spreads.grown) (Contains-append_right queue_old spreads.more b new)
    ]

-- ---- a list that grows

pub grown_none : (q : List ℕ) → IsGrown q q
grown_none q = record { more = []; is = sym (append-nil q) }

pub grown_more : (a b c more : List ℕ) → IsGrown a b → c ≡ b ++ more → IsGrown a c
grown_more a b c more g is = record { more = g.more ++ more; is = is ∙ ap (λ (l : List ℕ). l ++ more) g.is ∙ append_assoc a g.more more }

pub grown_length : (a b : List ℕ) → IsGrown a b → length a ≤ length b
grown_length a b g = omega (arith, ap length g.is, length-append a g.more)

-- ---- one step more

pub reaches_start : (next : ℕ → List ℕ) (from : ℕ) → Reaches next from (from ∷ []) 0 0
reaches_start next from = record {
  found = λ b j le. at_first b j (omega (arith, le));
  asked = λ b j lt. absurd (omega (arith, lt));
}
  where
    at_first : (b j : ℕ) → j ≡ 0 → Comes next from b j → Contains (from ∷ []) b
    at_first b zero is comes = subst (Contains (from ∷ [])) comes (in_first from [])
    at_first b (suc j) is comes = absurd (omega (arith, is))

pub reaches_more : (next : ℕ → List ℕ) (nodes from : ℕ) (marks queue_old queue_new : List ℕ) (rows : List (List ℕ)) (head steps end : ℕ) → Reaches next from queue_old head steps → IsGrown queue_old queue_new
    → Searches next nodes marks queue_new rows end → end ≡ length queue_old → Reaches next from queue_new end (steps + 1)
reaches_more next nodes from marks queue_old queue_new rows head steps end r g s is = record {
  found = more;
  asked = λ b j lt comes. place b (r.found b j (omega (arith, lt)) comes);
}
  where
    place : (b : ℕ) → Contains queue_old b → (i : ℕ) × (i < end) × (slice_index queue_new i ≡ b)
    place b has =
        let p = at_place queue_old b has in
        (p.0, omega (arith, p.1, is), ap (λ (q : List ℕ). slice_index q p.0) g.is ∙ get_or_append_left queue_old g.more 0 p.0 p.1 ∙ p.2)

    more : (b j : ℕ) → j ≤ steps + 1 → Comes next from b j → Contains queue_new b
    more b zero le comes = subst (λ (q : List ℕ). Contains q b) (sym g.is) (Contains-append_left queue_old g.more b (r.found b 0 (omega arith) comes))
    more b (suc j) le (c, comes, has) =
        let p = place c (r.found c j (omega (arith, le)) comes) in
        s.closed p.0 p.1 b (subst (λ (n : ℕ). Contains (next n) b) (sym p.2) has)

pub covers_end : (next : ℕ → List ℕ) (nodes from : ℕ) (marks queue : List ℕ) (rows : List (List ℕ)) (head most : ℕ) → Searches next nodes marks queue rows head → Reaches next from queue head most → Covers next from most rows
covers_end next nodes from marks queue rows head most s r = record {
  near = λ b j lt comes. let p = r.asked b j lt comes in subst (λ (n : ℕ). row_of rows n ≡ next n) p.2 (s.asked p.0 p.1);
  each = s.each;
}
