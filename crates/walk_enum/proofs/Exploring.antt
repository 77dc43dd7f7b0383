-- A search from a node, one node asked after another.
use Rattle.std.proofs.Common.{◌≡◌, ◌⊎◌, inl, inr, ℕ, zero, suc, ◌+◌, ◌-◌, ◌<◌, ◌≤◌, List, [], ◌∷◌, ◌++◌, length, set, replicate, refl, sym, ap, subst, ◌∙◌, arith, get_or-set_same, length-append}
use Rattle.std.specs.Prelude.{slice_index}
use Rattle.std.specs.List.{Contains}
use Rattle.std.proofs.lemmas.Bool.{cases_order, cases_lt}
use Rattle.std.proofs.lemmas.List.{get_or_append_left, get_or_default, length-replicate}
use Rattle.std.proofs.lemmas.List.Elements.{Contains-append_cases, Contains-append_left, Contains-append_right, Contains-get_or}
use Rattle.std.proofs.Math.Seq.{get_or-append_seam}
use Rattle.std.proofs.lemmas.List.{get_or-append-add}
use Rattle.std.proofs.Math.ListN.{length-set}
use Rattle.walk_enum.specs.Walks.{Goes}
use Rattle.walk_enum.specs.Inner.Turns.{row_of}
use Rattle.walk_enum.specs.Inner.Exploring.{some_count, Explores, Spreads, GoesOn, IsAtEnd}
use Rattle.walk_enum.proofs.Elements.{not_in_nothing, in_cases, in_first}
use Rattle.walk_enum.proofs.Along.{goes_on_by, goes_back}
use Rattle.walk_enum.proofs.Spreading.{set_cases, count_set, count_within, count_none, none_there}

-- an element at its place
pub at_place : (xs : List ℕ) (x : ℕ) → Contains xs x → (i : ℕ) × (i < length xs) × (slice_index xs i ≡ x)
at_place xs x (i, lt, is) = (i, lt, get_or_default xs i 0 x lt ∙ is)

one_only : (x b : ℕ) → Contains (x ∷ []) b → x ≡ b
one_only x b h = elim (in_cases x [] b h) [ inl e ↦ e | inr none ↦ not_in_nothing b none ]

pub explores_start : (next : ℕ → List ℕ) (nodes from to : ℕ) (depths : List ℕ) → 1 ≤ from → from ≤ nodes → depths ≡ set (replicate (nodes + 1) 0) from 1 → Explores next nodes from to depths (from ∷ []) [] 0
explores_start next nodes from to depths low high is = record {
  size = long;
  marked = λ b has. omega (arith, ap (slice_index depths) (one_only from b has), here);
  listed = λ b some. elim (cases b) [ inl e ↦ subst (Contains (from ∷ [])) e.0 (in_first from []) | inr e ↦ absurd (omega (arith, e, some)) ];
  count = sym (ap some_count is ∙ count_set (replicate (nodes + 1) 0) from 1 within (none_there (nodes + 1) from) (omega arith) ∙ ap (λ (n : ℕ). n + 1) (count_none (nodes + 1)));
  range = λ b has. (omega (arith, one_only from b has, low), omega (arith, one_only from b has, high));
  reach = λ b d at. elim (cases b) [
    | inl e ↦ subst (λ (n : ℕ). Goes next from b n) (zero_from d (sym at ∙ e.1)) e.0
    | inr e ↦ absurd (omega (arith, e, at))
  ];
  begun = here;
  ordered = λ i j le lt. let a : i ≡ j = omega (arith, le, lt) in omega (arith, ap (λ (n : ℕ). slice_index depths (slice_index (from ∷ []) n)) a);
  near = λ j lt more. let a : j ≡ 0 = omega (arith, lt) in omega (arith, ap (λ (n : ℕ). slice_index depths (slice_index (from ∷ []) n)) a);
  shallow = λ j lt. let a : j ≡ 0 = omega (arith, lt) in omega (arith, ap (λ (n : ℕ). slice_index depths (slice_index (from ∷ []) n)) a, here);
  closed = λ i lt. absurd (omega (arith, lt));
  asked = λ i lt. absurd (omega (arith, lt));
  before = λ i lt. absurd (omega (arith, lt));
  within = omega arith;
  long = refl;
}
  where
    within : from < length {A = ℕ} (replicate (nodes + 1) 0)
    within = omega (arith, length-replicate {A = ℕ} (nodes + 1) 0, high)

    long : length depths ≡ nodes + 1
    long = ap length is ∙ length-set (replicate (nodes + 1) 0) from 1 ∙ length-replicate {A = ℕ} (nodes + 1) 0

    here : slice_index depths from ≡ 1
    here = ap (λ (l : List ℕ). slice_index l from) is ∙ get_or-set_same (replicate (nodes + 1) 0) from 1 0 within

    cases : (b : ℕ) → ((from ≡ b) × (slice_index depths b ≡ 1)) ⊎ (slice_index depths b ≡ 0)
    cases b = elim (set_cases (replicate (nodes + 1) 0) from 1 b within) [
      | inl e ↦ inl (e.0, ap (λ (l : List ℕ). slice_index l b) is ∙ e.1)
      | inr e ↦ inr (ap (λ (l : List ℕ). slice_index l b) is ∙ e ∙ none_there (nodes + 1) b)
    ]

    zero_from : (d : ℕ) → suc d ≡ 1 → 0 ≡ d
    zero_from d e = omega (arith, e)

module _ (next : ℕ → List ℕ) (nodes from to : ℕ) (fits : (a b : ℕ) → Contains (next a) b → (1 ≤ b) × (b ≤ nodes))
    (old now queue queue_new : List ℕ) (rows : List (List ℕ)) (head : ℕ)
    (e : Explores next nodes from to old queue rows head) (goes : GoesOn old queue head to)
    (s : Spreads old now queue queue_new (next (slice_index queue head)) (slice_index old (slice_index queue head) + 1)) where
  -- the node that was asked, and the depth of its successors
  abbrev x : ℕ
  x = slice_index queue head

  abbrev deep : ℕ
  deep = slice_index old x + 1

  queue_long : length queue_new ≡ length queue + length s.more
  queue_long = ap length s.grown ∙ length-append queue s.more

  in_queue : (j : ℕ) → j < length queue → Contains queue (slice_index queue j)
  in_queue j lt = Contains-get_or queue j 0 lt

  -- places that were there
  same_node : (j : ℕ) → j < length queue → slice_index queue_new j ≡ slice_index queue j
  same_node j lt = ap (λ (q : List ℕ). slice_index q j) s.grown ∙ get_or_append_left queue s.more 0 j lt

  same_depth : (j : ℕ) → j < length queue → slice_index now (slice_index queue_new j) ≡ slice_index old (slice_index queue j)
  same_depth j lt = ap (slice_index now) (same_node j lt) ∙ s.kept (slice_index queue j) (e.marked (slice_index queue j) (in_queue j lt))

  -- places that are new
  new_depth : (j : ℕ) → length queue ≤ j → j < length queue_new → slice_index now (slice_index queue_new j) ≡ deep
  new_depth j le lt =
      let n = j - length queue in
      let at : length queue + n ≡ j = omega (arith, le) in
      let within : n < length s.more = omega (arith, lt, le, queue_long) in
      let is : slice_index queue_new j ≡ slice_index s.more n = ap (slice_index queue_new) (sym at) ∙ ap (λ (q : List ℕ). slice_index q (length queue + n)) s.grown ∙ get_or-append-add queue s.more n 0 in
      s.deep (slice_index queue_new j) (subst (Contains s.more) (sym is) (Contains-get_or s.more n 0 within))

  new_ordered : (i j : ℕ) → i ≤ j → j < length queue_new → slice_index now (slice_index queue_new i) ≤ slice_index now (slice_index queue_new j)
  new_ordered i j le lt = elim (cases_lt j (length queue)) [
    | inl j_old ↦ omega (arith, same_depth i (omega (arith, j_old, le)), same_depth j j_old, e.ordered i j le j_old)
    | inr j_new ↦ elim (cases_lt i (length queue)) [
      | inl i_old ↦ omega (arith, same_depth i i_old, new_depth j j_new lt, e.near i i_old goes.more)
      | inr i_new ↦ omega (arith, new_depth i i_new (omega (arith, le, lt)), new_depth j j_new lt)
    ]
  ]

  most : (j : ℕ) → j < length queue_new → slice_index now (slice_index queue_new j) ≤ deep
  most j lt = elim (cases_lt j (length queue)) [ inl j_old ↦ omega (arith, same_depth j j_old, e.near j j_old goes.more) | inr j_new ↦ omega (arith, new_depth j j_new lt) ]

  new_closed : (i : ℕ) → i < head + 1 → (b : ℕ) → Contains (next (slice_index queue_new i)) b → (1 ≤ slice_index now b) × (slice_index now b ≤ slice_index now (slice_index queue_new i) + 1)
  new_closed i lt b has = elim (cases_order i head) [
    | inl is ↦
        let node : slice_index queue_new i ≡ x = ap (slice_index queue_new) is ∙ same_node head goes.more in
        let found : Contains (next x) b = subst (λ (n : ℕ). Contains (next n) b) node has in
        let depth : slice_index now (slice_index queue_new i) ≡ slice_index old x = ap (λ (n : ℕ). slice_index now (slice_index queue_new n)) is ∙ same_depth head goes.more in (
          s.all b found,
          elim (s.cases b (s.all b found)) [
            | inl had ↦ let p = at_place queue b (e.listed b had) in omega (arith, s.kept b had, ap (slice_index old) p.2, e.near p.0 p.1 goes.more, depth)
            | inr fresh ↦ omega (arith, s.deep b fresh, depth)
          ],
        )
    | inr (inl less) ↦
        let old_place : i < length queue = omega (arith, less, goes.more) in
        let c = e.closed i less b (subst (λ (n : ℕ). Contains (next n) b) (same_node i old_place) has) in
        (omega (arith, c.0, s.kept b c.0), omega (arith, c.1, s.kept b c.0, same_depth i old_place))
    | inr (inr more) ↦ absurd (omega (arith, lt, more))
  ]

  new_before : (i : ℕ) → i < head + 1 → (slice_index now to ≡ 0) ⊎ (slice_index now (slice_index queue_new i) < slice_index now to)
  new_before i lt =
      let old_place : i < length queue = omega (arith, lt, goes.more) in
      let up : slice_index old (slice_index queue i) ≤ slice_index old x = e.ordered i head (omega (arith, lt)) goes.more in
      elim (cases_lt 0 (slice_index now to)) [
        | inr none ↦ inl (omega (arith, none))
        | inl some ↦ inr (elim (s.cases to some) [
          | inr fresh ↦ omega (arith, s.deep to fresh, same_depth i old_place, up)
          | inl had ↦ elim goes.before [
            | inl none ↦ absurd (omega (arith, none, had))
            | inr less ↦ omega (arith, less, up, s.kept to had, same_depth i old_place)
          ]
        ])
      ]

  new_reach : (b d : ℕ) → slice_index now b ≡ suc d → Goes next from b d
  new_reach b d at = elim (s.cases b (omega (arith, at))) [
    | inl had ↦ e.reach b d (sym (s.kept b had) ∙ at)
    | inr fresh ↦
        let some : 1 ≤ slice_index old x = e.marked x (in_queue head goes.more) in
        let h = slice_index old x - 1 in
        let steps : h + 1 ≡ d = omega (arith, some, at, s.deep b fresh) in
        subst (Goes next from b) steps (goes_on_by next from x b h (e.reach x h (omega (arith, some))) (s.fresh b fresh))
  ]

  new_asked : (i : ℕ) → i < head + 1 → row_of (rows ++ next x ∷ []) i ≡ next (slice_index queue_new i)
  new_asked i lt = elim (cases_order i head) [
    | inl is ↦
        let last : i ≡ length rows = omega (arith, is, e.long) in
        ap (row_of (rows ++ next x ∷ [])) last ∙ get_or-append_seam rows (next x) [] [] ∙ ap next (sym (ap (slice_index queue_new) is ∙ same_node head goes.more))
    | inr (inl less) ↦ get_or_append_left rows (next x ∷ []) [] i (omega (arith, less, e.long)) ∙ e.asked i less ∙ ap next (sym (same_node i (omega (arith, less, goes.more))))
    | inr (inr more) ↦ absurd (omega (arith, lt, more))
  ]

  pub explores_more : Explores next nodes from to now queue_new (rows ++ next x ∷ []) (head + 1)
  explores_more = record {
    size = s.same_length ∙ e.size;
    marked = λ b has. elim (Contains-append_cases queue s.more b (subst (λ (q : List ℕ). Contains q b) s.grown has)) [
      | inl before ↦ omega (arith, s.kept b (e.marked b before), e.marked b before)
      | inr fresh ↦ omega (arith, s.deep b fresh)
    ];
    listed = λ b some. subst (λ (q : List ℕ). Contains q b) (sym s.grown) (elim (s.cases b some) [ inl had ↦ Contains-append_left queue s.more b (e.listed b had) | inr fresh ↦ Contains-append_right queue s.more b fresh ]);
    count = omega (arith, queue_long, e.count, s.count);
    range = λ b has. elim (Contains-append_cases queue s.more b (subst (λ (q : List ℕ). Contains q b) s.grown has)) [ inl before ↦ e.range b before | inr fresh ↦ fits x b (s.fresh b fresh) ];
    reach = new_reach;
    begun = s.kept from (omega (arith, e.begun)) ∙ e.begun;
    ordered = new_ordered;
    near = λ j lt more. omega (arith, most j lt, new_ordered head (head + 1) (omega arith) more, same_depth head goes.more);
    shallow = λ j lt. elim (cases_lt j (length queue)) [
      | inl j_old ↦ omega (arith, same_depth j j_old, e.shallow j j_old)
      | inr j_new ↦ omega (arith, new_depth j j_new lt, e.shallow head goes.more, j_new, goes.more)
    ];
    closed = new_closed;
    asked = new_asked;
    before = new_before;
    within = omega (arith, goes.more, queue_long);
    long = omega (arith, e.long, length-append rows (next x ∷ []));
  }

module _ (next : ℕ → List ℕ) (nodes from to : ℕ) (depths queue : List ℕ) (rows : List (List ℕ)) (head : ℕ) (e : Explores next nodes from to depths queue rows head) where
  -- no more are found than there are nodes
  pub queue_small : length queue ≤ nodes
  queue_small = by depths e.size (λ some. (e.range 0 (e.listed 0 some)).0) e.count
    where
      by : (ds : List ℕ) → length ds ≡ nodes + 1 → (1 ≤ slice_index ds 0 → 1 ≤ 0) → length queue ≡ some_count ds → length queue ≤ nodes
      by [] long none count = absurd (omega (arith, long))
      by (zero ∷ ds) long none count = omega (arith, long, count, count_within ds)
      by (suc d ∷ ds) long none count = absurd (omega (arith, none (omega arith)))

  pub depth_small : (b : ℕ) → slice_index depths b ≤ nodes
  depth_small b = elim (cases_lt 0 (slice_index depths b)) [
    | inr none ↦ omega (arith, none)
    | inl some ↦ let p = at_place queue b (e.listed b some) in omega (arith, ap (slice_index depths) p.2, e.shallow p.0 p.1, p.1, queue_small)
  ]

  module _ (end : IsAtEnd depths queue head to) where
    pub was_asked : (b : ℕ) → 1 ≤ slice_index depths b → (slice_index depths to ≡ 0) ⊎ (slice_index depths b < slice_index depths to) → (i : ℕ) × (i < head) × (slice_index queue i ≡ b)
    was_asked b some less =
        let p = at_place queue b (e.listed b some) in
        (p.0, before p.0 p.1 p.2 less end.end (cases_lt p.0 head), p.2)
      where
        before : (i : ℕ) → i < length queue → slice_index queue i ≡ b → (slice_index depths to ≡ 0) ⊎ (slice_index depths b < slice_index depths to)
            → (length queue ≤ head) ⊎ ((1 ≤ slice_index depths to) × (slice_index depths to ≤ slice_index depths (slice_index queue head))) → (i < head) ⊎ (head ≤ i) → i < head
        before i lt is less ends (inl done) = done
        before i lt is less (inl all) (inr le) = absurd (omega (arith, lt, all, le))
        before i lt is (inl none) (inr far) (inr le) = absurd (omega (arith, none, far.0))
        before i lt is (inr near) (inr far) (inr le) = absurd (omega (arith, near, far.1, e.ordered head i le lt, ap (slice_index depths) is))

    -- each walk that is shorter than the target's depth ends at a node that is found, no deeper than its steps
    pub least : (n b : ℕ) → (slice_index depths to ≡ 0) ⊎ (n < slice_index depths to) → Goes next from b n → (1 ≤ slice_index depths b) × (slice_index depths b ≤ n + 1)
    least zero b less is = (omega (arith, ap (slice_index depths) is, e.begun), omega (arith, ap (slice_index depths) is, e.begun))
    least (suc n) b less walk =
        let back = goes_back next from b n walk in
        let c = back.0 in
        let d = least n c (elim less [ inl none ↦ inl none | inr lt ↦ inr (omega (arith, lt)) ]) back.1 in
        let p = was_asked c d.0 (elim less [ inl none ↦ inl none | inr lt ↦ inr (omega (arith, lt, d.1)) ]) in
        let r = e.closed p.0 p.1 b (subst (λ (a : ℕ). Contains (next a) b) (sym p.2) back.2) in
        (r.0, omega (arith, r.1, d.1, ap (slice_index depths) p.2))
