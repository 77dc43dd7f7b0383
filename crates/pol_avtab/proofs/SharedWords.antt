-- Words are distinct where those of shared buckets are.
use Rattle.std.proofs.Common.{◌≡◌, ℕ, ◌+◌, ◌-◌, ◌*◌, ◌/◌, ◌%◌, ◌^◌, ◌<◌, ◌≤◌, Bool, true, false, true≢false, ◌⊎◌, inl, inr, List, [], ◌∷◌, ◌++◌, length, get_or, replicate, refl, sym, ap, subst, ◌∙◌, arith}
use Rattle.std.specs.Prelude.{◌==◌, ◌||◌, cond}
use Rattle.std.specs.List.{filter, AllByRecursion, Contains, IsDistinct}
use Rattle.std.specs.Int.{bit_at, leading_zeros, w64}
use Rattle.std.proofs.lemmas.Bool.{cases_eq, cases_lt, or_left, or_right, eq-eqb, ne_eqb}
use Rattle.std.proofs.lemmas.Nat.{shr_below, pow-add, leading_length}
use Rattle.std.proofs.lemmas.Nat.Bits.{bit_at-zero}
use Rattle.std.proofs.lemmas.List.{get_or-replicate, get_or_past, length-replicate}
use Rattle.std.proofs.lemmas.List.Elements.{Contains-append_right, Contains-append_cases}
use Rattle.pol_bitmap.proofs.Elements.{contains_nothing, contains_one, contains_first, keeps}
use Rattle.pol_cursor.specs.Inner.BitPlaces.{has_bit_of}
use Rattle.pol_avtab.specs.Inner.DuplicateKeys.{Marks, HasBuckets, bucket_of, is_met, is_shared, AreTested, AreMarked}

-- ---- one word more

tested_more : (test next : ℕ → Bool) (words : List ℕ) (word : ℕ) → ((other : ℕ) → test other ≡ true → next other ≡ true) → AreTested test words → (Contains words word → next word ≡ true) → AreTested next (words ++ word ∷ [])
tested_more test next [] word stay tested again = ((λ there. absurd (contains_nothing word there)), tt)
tested_more test next (w ∷ ws) word stay tested again = (
  (λ there. elim (Contains-append_cases ws (word ∷ []) w there) [
    | inl before ↦ stay w (tested.0 before)
    | inr last ↦ let same : word ≡ w = contains_one w word last in
        subst (λ (x : ℕ). next x ≡ true) same (again (subst (λ (x : ℕ). Contains (w ∷ ws) x) (sym same) (contains_first w ws)))
  ]),
  tested_more test next ws word stay tested.1 (λ there. again (Contains-append_right (w ∷ []) ws word there)),
)

pub marked_more : (marks next : Marks) (words : List ℕ) (word : ℕ) → AreMarked marks words → is_met next word ≡ true → (is_met marks word ≡ true → is_shared next word ≡ true)
    → ((other : ℕ) → is_met marks other ≡ true → is_met next other ≡ true) → ((other : ℕ) → is_shared marks other ≡ true → is_shared next other ≡ true) → AreMarked next (words ++ word ∷ [])
marked_more marks next words word are met again stay_met stay_shared = record {
  met = λ other there. elim (Contains-append_cases words (word ∷ []) other there) [
    | inl before ↦ stay_met other (are.met other before)
    | inr last ↦ subst (λ (x : ℕ). is_met next x ≡ true) (contains_one other word last) met
  ];
  twice = tested_more (is_shared marks) (is_shared next) words word stay_shared are.twice (λ there. again (are.met word there));
}

-- ---- the words that pass the test

differs : (word : ℕ) (words : List ℕ) → (Contains words word → ⊥) → AllByRecursion (λ other. (word == other) ≡ false) words
differs word [] none = tt
differs word (w ∷ ws) none = (
  ne_eqb word w (λ e. none (subst (λ (x : ℕ). Contains (x ∷ ws) word) e (contains_first word ws))),
  differs word ws (λ there. none (Contains-append_right (w ∷ []) ws word there)),
)

not_there : (word : ℕ) (words : List ℕ) → AllByRecursion (λ other. (word == other) ≡ false) words → Contains words word → ⊥
not_there word [] all there = contains_nothing word there
not_there word (w ∷ ws) all there = elim (Contains-append_cases (w ∷ []) ws word there) [
  | inl first ↦ true≢false (sym (eq-eqb word w (sym (contains_one word w first))) ∙ all.0)
  | inr rest ↦ not_there word ws all.1 rest
]

first_passes : (b : Bool) (word : ℕ) (passed : List ℕ) → b ≡ true → IsDistinct ◌==◌ (cond b (word ∷ passed) passed) → AllByRecursion (λ other. (word == other) ≡ false) passed
unfolding IsDistinct
first_passes true word passed e distinct = distinct.0
first_passes false word passed e distinct = absurd cc

others_pass : (b : Bool) (word : ℕ) (passed : List ℕ) → IsDistinct ◌==◌ (cond b (word ∷ passed) passed) → IsDistinct ◌==◌ passed
unfolding IsDistinct
others_pass true word passed distinct = distinct.1
others_pass false word passed distinct = distinct

-- Where the words that pass are distinct, and each that stands again behind it passes, all are distinct.
pub distinct_of_tested : (test : ℕ → Bool) (words : List ℕ) → AreTested test words → IsDistinct ◌==◌ (filter test words) → IsDistinct ◌==◌ words
unfolding IsDistinct
distinct_of_tested test [] tested distinct = tt
distinct_of_tested test (w ∷ ws) tested distinct = (
  differs w ws (λ there. not_there w (filter test ws) (first_passes (test w) w (filter test ws) (tested.0 there) distinct) (keeps test ws w there (tested.0 there))),
  distinct_of_tested test ws tested.1 (others_pass (test w) w (filter test ws) distinct),
)

-- ---- bits

none_set : (count place : ℕ) → has_bit_of (replicate count 0) place ≡ false
unfolding has_bit_of
none_set count place =
    let nothing : get_or (replicate count 0) (place / 64) 0 ≡ 0 = elim (cases_lt (place / 64) count) [
      | inl lt ↦ get_or-replicate count (place / 64) 0 0 lt
      | inr le ↦ get_or_past (replicate count 0) (place / 64) 0 (omega (arith, le, length-replicate {A = ℕ} count 0))
    ] in
    ap (λ (w : ℕ). bit_at w (place % 64) == 1) nothing ∙ ap (λ (b : ℕ). b == 1) (bit_at-zero (place % 64))

-- no word was met yet
pub none_met : (shift count word : ℕ) → is_met (record { shift = shift; bits = replicate count 0 }) word ≡ false
unfolding is_met
none_met shift count word = none_set count (2 * bucket_of shift word)

pub none_shared : (shift count word : ℕ) → is_shared (record { shift = shift; bits = replicate count 0 }) word ≡ false
unfolding is_shared
none_shared shift count word = none_set count (2 * bucket_of shift word + 1)

-- what a word that is met changes
pub record Meets (marks : Marks) (word : ℕ) (next : Marks) : Type 0 where
  pub met : is_met next word ≡ true
  pub again : is_met marks word ≡ true → is_shared next word ≡ true
  pub stay_met : (other : ℕ) → is_met marks other ≡ true → is_met next other ≡ true
  pub stay_shared : (other : ℕ) → is_shared marks other ≡ true → is_shared next other ≡ true

module _ (marks : Marks) (word : ℕ) (bits : List ℕ) where
  meets_again : ((other : ℕ) → has_bit_of bits other ≡ (has_bit_of marks.bits other || (2 * bucket_of marks.shift word + 1 == other))) → is_met marks word ≡ true → Meets marks word (record { shift = marks.shift; bits = bits })
  unfolding is_met is_shared
  meets_again each met =
      let place = 2 * bucket_of marks.shift word + 1 in
      record {
        met = each _ ∙ or_left _ _ met;
        again = λ e. each place ∙ or_right (has_bit_of marks.bits place) (place == place) (eq-eqb place place refl);
        stay_met = λ other e. each _ ∙ or_left _ _ e;
        stay_shared = λ other e. each _ ∙ or_left _ _ e;
      }

  meets_first : ((other : ℕ) → has_bit_of bits other ≡ (has_bit_of marks.bits other || (2 * bucket_of marks.shift word == other))) → is_met marks word ≡ false → Meets marks word (record { shift = marks.shift; bits = bits })
  unfolding is_met is_shared
  meets_first each new =
      let place = 2 * bucket_of marks.shift word in
      record {
        met = each place ∙ or_right (has_bit_of marks.bits place) (place == place) (eq-eqb place place refl);
        again = λ e. absurd (true≢false (sym e ∙ new));
        stay_met = λ other e. each _ ∙ or_left _ _ e;
        stay_shared = λ other e. each _ ∙ or_left _ _ e;
      }

  -- the second bit of its bucket is set where the first one is, and else the first
  pub meets_at : (place : ℕ) → ((other : ℕ) → has_bit_of bits other ≡ (has_bit_of marks.bits other || (place == other)))
      → ((is_met marks word ≡ true) × (place ≡ 2 * bucket_of marks.shift word + 1)) ⊎ ((is_met marks word ≡ false) × (place ≡ 2 * bucket_of marks.shift word)) → Meets marks word (record { shift = marks.shift; bits = bits })
  meets_at place each (inl h) = meets_again (λ other. each other ∙ ap (λ (p : ℕ). has_bit_of marks.bits other || (p == other)) h.1) h.0
  meets_at place each (inr h) = meets_first (λ other. each other ∙ ap (λ (p : ℕ). has_bit_of marks.bits other || (p == other)) h.1) h.0

-- ---- buckets

pub some_shift : (words : ℕ) → words < 2 ^ 32 → 1 ≤ leading_zeros w64 (4 * words)
some_shift words lt =
    let top = leading_length 64 (4 * words) (omega arith) in
    elim (cases_eq (leading_zeros w64 (4 * words)) 0) [
      | inl none ↦
          let all : top.0 ≡ 64 = omega (arith, none, top.1) in
          absurd (let le : 2 ^ 64 ≤ 2 * (4 * words) + 1 = subst (λ (k : ℕ). 2 ^ k ≤ 2 * (4 * words) + 1) all top.3 in omega arith)
      | inr some ↦ omega arith
    ]

pub bits_long : (shift : ℕ) (bits : List ℕ) → HasBuckets shift bits → 64 * length bits ≡ 2 * 2 ^ (64 - shift)
bits_long shift bits has =
    let e : 64 - shift ≡ 5 + (59 - shift) = omega (arith, has.most) in
    let p : 2 ^ (64 - shift) ≡ 32 * 2 ^ (59 - shift) = ap (λ (k : ℕ). 2 ^ k) e ∙ pow-add 2 5 (59 - shift) in
    omega (arith, has.long, p)

pub bucket_below : (shift word : ℕ) → shift ≤ 58 → bucket_of shift word < 2 ^ (64 - shift)
unfolding bucket_of
bucket_below shift word le =
    let e : 64 - shift + shift ≡ 64 = omega arith in
    shr_below (word * 0x9E3779B97F4A7C15 % 2 ^ 64) (64 - shift) shift (rw e (omega arith))
