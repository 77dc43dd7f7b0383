-- The successors of a node get a depth.
use Rattle.std.proofs.Common.{◌≡◌, ◌⊎◌, inl, inr, ℕ, zero, suc, ◌+◌, ◌<◌, ◌≤◌, List, [], ◌∷◌, ◌++◌, length, set, replicate, refl, sym, ap, subst, ◌∙◌, arith, append_assoc, append-nil, get_or-set_same, length-append}
use Rattle.std.specs.Prelude.{slice_index}
use Rattle.std.specs.List.{All, Contains}
use Rattle.std.proofs.lemmas.Bool.{cases_lt}
use Rattle.std.proofs.lemmas.List.Elements.{All-contains, All-contains_itself, All-weaker, Contains-push, Contains-push_cases, Contains-append_left, Contains-append_right}
use Rattle.std.proofs.Math.ListN.{length-set}
use Rattle.pol_bitmap.specs.Sets.{IsUnion, IsDifference}
use Rattle.walk_enum.specs.Inner.Exploring.{some_count, Spreads, AreFound}
use Rattle.walk_enum.proofs.Elements.{not_in_nothing, in_first}

-- what stands in a list after a write
pub set_cases : (xs : List ℕ) (i v b : ℕ) → i < length xs → ((i ≡ b) × (slice_index (set xs i v) b ≡ v)) ⊎ (slice_index (set xs i v) b ≡ slice_index xs b)
set_cases [] i v b lt = absurd (omega (arith, lt))
set_cases (x ∷ xs) zero v zero lt = inl (refl, refl)
set_cases (x ∷ xs) zero v (suc b) lt = inr refl
set_cases (x ∷ xs) (suc i) v zero lt = inr refl
set_cases (x ∷ xs) (suc i) v (suc b) lt = up (set_cases xs i v b (omega (arith, lt)))
  where
    up : ((i ≡ b) × (slice_index (set xs i v) b ≡ v)) ⊎ (slice_index (set xs i v) b ≡ slice_index xs b) → ((suc i ≡ suc b) × (slice_index (set xs i v) b ≡ v)) ⊎ (slice_index (set xs i v) b ≡ slice_index xs b)
    up (inl e) = inl (ap suc e.0, e.1)
    up (inr e) = inr e

pub count_set : (xs : List ℕ) (i v : ℕ) → i < length xs → slice_index xs i ≡ 0 → 1 ≤ v → some_count (set xs i v) ≡ some_count xs + 1
count_set [] i v lt none some = absurd (omega (arith, lt))
count_set (zero ∷ xs) zero zero lt none some = absurd (omega (arith, some))
count_set (zero ∷ xs) zero (suc v) lt none some = refl
count_set (suc x ∷ xs) zero v lt none some = absurd (omega (arith, none))
count_set (zero ∷ xs) (suc i) v lt none some = count_set xs i v (omega (arith, lt)) none some
count_set (suc x ∷ xs) (suc i) v lt none some = ap (λ (n : ℕ). n + 1) (count_set xs i v (omega (arith, lt)) none some)

pub count_within : (xs : List ℕ) → some_count xs ≤ length xs
count_within [] = omega arith
count_within (zero ∷ xs) = omega (arith, count_within xs)
count_within (suc x ∷ xs) = omega (arith, count_within xs)

pub count_none : (n : ℕ) → some_count (replicate n 0) ≡ 0
count_none zero = refl
count_none (suc n) = count_none n

pub none_there : (n b : ℕ) → slice_index (replicate n 0) b ≡ 0
none_there zero b = refl
none_there (suc n) zero = refl
none_there (suc n) (suc b) = none_there n b

-- Those of the nodes that are not left were found.
pub record SpreadsUpTo (old now queue_old queue all left : List ℕ) (depth : ℕ) : Type 0 where
  pub done : List ℕ
  pub parts : all ≡ done ++ left
  pub spreads : Spreads old now queue_old queue done depth

pub spreads_none : (depths queue : List ℕ) (depth : ℕ) → Spreads depths depths queue queue [] depth
spreads_none depths queue depth = record {
  same_length = refl;
  more = [];
  grown = sym (append-nil queue);
  fresh = λ b has. has;
  deep = λ b has. not_in_nothing b has;
  count = omega arith;
  kept = λ b some. refl;
  cases = λ b some. inl some;
  all = λ b has. not_in_nothing b has;
}

-- a node without a depth
pub spreads_new : (old now queue_old queue found : List ℕ) (depth x : ℕ) → 1 ≤ depth → Spreads old now queue_old queue found depth → x < length now → slice_index now x ≡ 0 → Spreads old (set now x depth) queue_old (queue ++ x ∷ []) (found ++ x ∷ []) depth
spreads_new old now queue_old queue found depth x some s lt none = record {
  same_length = length-set now x depth ∙ s.same_length;
  more = s.more ++ x ∷ [];
  grown = ap (λ (q : List ℕ). q ++ x ∷ []) s.grown ∙ append_assoc queue_old s.more (x ∷ []);
  fresh = λ b has. elim (Contains-push_cases s.more x b has) [ inl before ↦ Contains-append_left found (x ∷ []) b (s.fresh b before) | inr e ↦ subst (Contains (found ++ x ∷ [])) e (Contains-push found x) ];
  deep = λ b has. deeper b (set_cases now x depth b lt) (Contains-push_cases s.more x b has);
  count = omega (arith, count_set now x depth lt none some, s.count, length-append s.more (x ∷ []));
  kept = λ b had. elim (set_cases now x depth b lt) [ inl e ↦ absurd (omega (arith, ap (slice_index now) e.0, none, s.kept b had, had)) | inr e ↦ e ∙ s.kept b had ];
  cases = λ b has. elim (set_cases now x depth b lt) [
    | inl e ↦ inr (subst (Contains (s.more ++ x ∷ [])) e.0 (Contains-push s.more x))
    | inr e ↦ elim (s.cases b (omega (arith, e, has))) [ inl before ↦ inl before | inr fresh ↦ inr (Contains-append_left s.more (x ∷ []) b fresh) ]
  ];
  all = λ b has. elim (set_cases now x depth b lt) [
    | inl e ↦ omega (arith, e.1, some)
    | inr e ↦ elim (Contains-push_cases found x b has) [
      | inl before ↦ omega (arith, e, s.all b before)
      | inr same ↦ omega (arith, ap (slice_index (set now x depth)) same, get_or-set_same now x depth 0 lt, some)
    ]
  ];
}
  where
    deeper : (b : ℕ) → ((x ≡ b) × (slice_index (set now x depth) b ≡ depth)) ⊎ (slice_index (set now x depth) b ≡ slice_index now b) → Contains s.more b ⊎ (x ≡ b) → slice_index (set now x depth) b ≡ depth
    deeper b (inl e) has = e.1
    deeper b (inr e) (inl before) = e ∙ s.deep b before
    deeper b (inr e) (inr same) = ap (slice_index (set now x depth)) (sym same) ∙ get_or-set_same now x depth 0 lt

-- a node that has one
pub spreads_old : (old now queue_old queue found : List ℕ) (depth x : ℕ) → Spreads old now queue_old queue found depth → 1 ≤ slice_index now x → Spreads old now queue_old queue (found ++ x ∷ []) depth
spreads_old old now queue_old queue found depth x s some = record {
  same_length = s.same_length;
  more = s.more;
  grown = s.grown;
  fresh = λ b has. Contains-append_left found (x ∷ []) b (s.fresh b has);
  deep = s.deep;
  count = s.count;
  kept = s.kept;
  cases = s.cases;
  all = λ b has. elim (Contains-push_cases found x b has) [ inl before ↦ s.all b before | inr same ↦ subst (λ (n : ℕ). 1 ≤ slice_index now n) same some ];
}

-- ---- one node after another

pub up_to_none : (depths queue all left : List ℕ) (depth : ℕ) → left ≡ all → SpreadsUpTo depths depths queue queue all left depth
up_to_none depths queue all left depth is = record { done = []; parts = sym is; spreads = spreads_none depths queue depth }

module _ (old now queue_old queue all left rest : List ℕ) (depth x : ℕ) (u : SpreadsUpTo old now queue_old queue all left depth) (is : left ≡ x ∷ rest) where
  parts_next : all ≡ (u.done ++ x ∷ []) ++ rest
  parts_next = u.parts ∙ ap (λ (l : List ℕ). u.done ++ l) is ∙ sym (append_assoc u.done (x ∷ []) rest)

  pub here : Contains all x
  here = subst (λ (l : List ℕ). Contains l x) (sym (u.parts ∙ ap (λ (l : List ℕ). u.done ++ l) is)) (Contains-append_right u.done (x ∷ rest) x (in_first x rest))

  pub here_within : All (λ b. b < length old) all → x < length now
  here_within range = omega (arith, All-contains (λ (b : ℕ). b < length old) all x range here, u.spreads.same_length)

  pub up_to_new : 1 ≤ depth → x < length now → slice_index now x ≡ 0 → SpreadsUpTo old (set now x depth) queue_old (queue ++ x ∷ []) all rest depth
  up_to_new some lt none = record { done = u.done ++ x ∷ []; parts = parts_next; spreads = spreads_new old now queue_old queue u.done depth x some u.spreads lt none }

  pub up_to_old : 1 ≤ slice_index now x → SpreadsUpTo old now queue_old queue all rest depth
  up_to_old some = record { done = u.done ++ x ∷ []; parts = parts_next; spreads = spreads_old old now queue_old queue u.done depth x u.spreads some }

-- ---- many nodes, without those that are known to have a depth

pub fits_difference : (found known others : List ℕ) (n : ℕ) → IsDifference found known others → All (λ b. b < n) found → All (λ b. b < n) others
fits_difference found known others n differ fits =
    All-weaker (Contains others) (λ (b : ℕ). b < n) (λ b has. All-contains (λ (c : ℕ). c < n) found b fits ((differ.each b).0 has).0) others (All-contains_itself others)

pub spreads_known : (old now queue_old queue found known others : List ℕ) (depth : ℕ) → AreFound old known → IsDifference found known others → Spreads old now queue_old queue others depth → Spreads old now queue_old queue found depth
spreads_known old now queue_old queue found known others depth had differ s = record {
  same_length = s.same_length;
  more = s.more;
  grown = s.grown;
  fresh = λ b has. ((differ.each b).0 (s.fresh b has)).0;
  deep = s.deep;
  count = s.count;
  kept = s.kept;
  cases = s.cases;
  all = λ b has. elim (cases_lt 0 (slice_index old b)) [
    | inl some ↦ omega (arith, s.kept b some, some)
    | inr none ↦ s.all b ((differ.each b).1 (has, λ in_known. omega (arith, none, had.each b in_known)))
  ];
}

pub found_still : (old now queue_old queue found known : List ℕ) (depth : ℕ) → AreFound old known → Spreads old now queue_old queue found depth → AreFound now known
found_still old now queue_old queue found known depth had s = record { each = λ b has. omega (arith, s.kept b (had.each b has), had.each b has) }

pub found_more : (old now queue_old queue found known both : List ℕ) (depth : ℕ) → AreFound old known → IsUnion known found both → Spreads old now queue_old queue found depth → AreFound now both
found_more old now queue_old queue found known both depth had joins s = record {
  each = λ b has. elim ((joins.each b).0 has) [ inl before ↦ (found_still old now queue_old queue found known depth had s).each b before | inr fresh ↦ s.all b fresh ];
}
