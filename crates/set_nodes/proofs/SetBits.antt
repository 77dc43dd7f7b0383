-- The set of bits that rise has just these bits.
use Rattle.std.proofs.Common.{◌≡◌, inl, inr, ℕ, zero, suc, ◌+◌, ◌-◌, ◌%◌, ◌^◌, ◌<◌, ◌≤◌, max, Bool, true, false, ◌||◌, Result, Ok, Err, IfOk, List, [], ◌∷◌, length, refl, sym, ap, ◌∙◌, arith}
use Rattle.std.specs.Prelude.{bit_or, ◌==◌, ◌&&◌, nat_le, nat_lt, slice_index}
use Rattle.std.specs.Int.{bit_at}
use Rattle.std.specs.List.{All, AllByRecursion, Contains, range_with_len}
use Rattle.std.specs.List.Sorted.{IsStrictlyIncreasing}
use Rattle.std.proofs.lemmas.Nat.{or_lt, le_or_l, pow_below, pow_pos}
use Rattle.std.proofs.lemmas.Nat.Bits.{bit_at_or, bit_at-lt, bit_at-pow_same, bit_at-pow_other}
use Rattle.std.proofs.lemmas.Bool.{cases_eq, cases_Bool, eqb-true, eq-eqb, ne_eqb, and_from, and_parts, le-leb, lt-ltb, leb-true, ltb-true, or_cases, or_left, or_right}
use Rattle.std.proofs.lemmas.List.Elements.{All-head, All-tail, Contains-append_right, Contains-append_cases}
use Rattle.pol_bitmap.specs.declared.Node.{Node}
use Rattle.pol_bitmap.specs.Nodes.{node_has, has_bit, bits_of}
use Rattle.pol_bitmap.specs.Sets.{IsSet, IsSetFrom}
use Rattle.pol_bitmap.proofs.Elements.{contains_nothing, contains_one, contains_first}
use Rattle.pol_bitmap.proofs.BitLists.{RisesFrom, rises_same, bits_rise, has_bit-from_bits, bits-from_has_bit}
use Rattle.pol_bitmap.proofs.Merging.{by_digits, later}
use Rattle.pol_bitmap.proofs.SetLaws.{sets_same, set_bits_fit}
use Rattle.set_nodes.specs.SetNodes.{node_of, with_node, set_of}

-- ---- the bits of a node

-- the node of a bit has it alone
node_of-has : (bit c : ℕ) → node_has c (node_of bit) ≡ (c == bit)
node_of-has bit c = elim (cases_eq c bit) [
  | inl same ↦
      let start = bit - bit % 64 in
      let k : c - start ≡ bit % 64 = omega arith in
      let one : bit_at (2 ^ (bit % 64)) (c - start) ≡ 1 = rw k (bit_at-pow_same (bit % 64)) in
      and_from _ _ (and_from _ _ (le-leb start c (omega arith)) (lt-ltb c (start + 64) (omega arith))) (eq-eqb _ _ one) ∙ sym (eq-eqb c bit same)
  | inr other ↦ elim (cases_Bool (node_has c (node_of bit))) [
    | inl has ↦
        let start = bit - bit % 64 in
        let p = and_parts (nat_le start c && nat_lt c (start + 64)) _ has in
        let q = and_parts (nat_le start c) (nat_lt c (start + 64)) p.0 in
        let le : start ≤ c = leb-true start c q.0 in
        let lt : c < start + 64 = ltb-true c (start + 64) q.1 in
        let apart : c - start ≡ bit % 64 → ⊥ = λ k. other (omega arith) in
        let none : bit_at (2 ^ (bit % 64)) (c - start) ≡ 0 = bit_at-pow_other (bit % 64) (c - start) apart in
        let one : bit_at (2 ^ (bit % 64)) (c - start) ≡ 1 = eqb-true _ _ p.1 in
        absurd (cc)
    | inr none ↦ none ∙ sym (ne_eqb c bit other)
  ]
]

digits-or : (p q : ℕ) → p < 2 → q < 2 → (max p q == 1) ≡ ((p == 1) || (q == 1))
digits-or = by_digits (λ p q. (max p q == 1) ≡ ((p == 1) || (q == 1))) refl refl refl refl

guarded-or : (g m p q : Bool) → m ≡ (p || q) → (g && m) ≡ ((g && p) || (g && q))
guarded-or true m p q h = h
guarded-or false m p q h = refl

-- a node of two maps has the bits of both
joined-has : (start a b c : ℕ) → node_has c (record { start = start; map = bit_or a b }) ≡ (node_has c (record { start = start; map = a }) || node_has c (record { start = start; map = b }))
joined-has start a b c =
    guarded-or (nat_le start c && nat_lt c (start + 64)) _ _ _
    (ap (λ (v : ℕ). v == 1) (bit_at_or a b (c - start)) ∙ digits-or (bit_at a (c - start)) (bit_at b (c - start)) (bit_at-lt a (c - start)) (bit_at-lt b (c - start)))

or-regroup : (a b c : Bool) → ((a || b) || c) ≡ (a || (b || c))
or-regroup true b c = refl
or-regroup false b c = refl

-- ---- one node more

with_node-has : (n : Node) (ns : List Node) (c : ℕ) → has_bit (with_node n ns) c ≡ (node_has c n || has_bit ns c)
with_node-has n [] c = refl
with_node-has n (m ∷ ms) c = elim (cases_eq n.start m.start) [
  | inl same ↦
      let test : (n.start == m.start) ≡ true = eq-eqb n.start m.start same in
      let moved : node_has c (record { start = n.start; map = m.map }) ≡ node_has c m = ap (λ (s : ℕ). node_has c (record { start = s; map = m.map })) same in
      let joined : (node_has c (record { start = n.start; map = bit_or n.map m.map }) || has_bit ms c) ≡ (node_has c n || (node_has c m || has_bit ms c)) =
      ap (λ (b : Bool). b || has_bit ms c) (joined-has n.start n.map m.map c ∙ ap (λ (b : Bool). node_has c n || b) moved) ∙ or-regroup (node_has c n) (node_has c m) (has_bit ms c)
      in
      rw test joined
  | inr other ↦ rw (ne_eqb n.start m.start other) refl
]

with_node-set : (base bit : ℕ) (ns : List Node) → bit < 2 ^ 32 → base ≤ bit - bit % 64 → IsSetFrom (bit - bit % 64) ns → IsSetFrom base (with_node (node_of bit) ns)
with_node-set base bit ns fit le h =
    let small : 2 ^ (bit % 64) < 2 ^ 64 = pow_below (bit % 64) 64 (omega arith) in
    let some : 0 < 2 ^ (bit % 64) = pow_pos (bit % 64) in
    set base bit ns fit le small some h
  where
    set : (base bit : ℕ) (ns : List Node) → bit < 2 ^ 32 → base ≤ bit - bit % 64 → 2 ^ (bit % 64) < 2 ^ 64 → 0 < 2 ^ (bit % 64) → IsSetFrom (bit - bit % 64) ns → IsSetFrom base (with_node (node_of bit) ns)
    set base bit [] fit le small some h = ((le, omega arith, some, tt), ((omega arith, small), tt))
    set base bit (m ∷ ms) fit le small some h = elim (cases_eq (bit - bit % 64) m.start) [
      | inl same ↦
          let test : ((bit - bit % 64) == m.start) ≡ true = eq-eqb (bit - bit % 64) m.start same in
          let full : 0 < bit_or (2 ^ (bit % 64)) m.map = omega (arith, le_or_l (2 ^ (bit % 64)) m.map) in
          let rest : IsSetFrom (bit - bit % 64 + 64) ms = rw same (h.0.3, h.1.1) in
          rw test ((le, omega arith, full, rest.0), ((omega arith, or_lt 64 (2 ^ (bit % 64)) m.map small h.1.0.1), rest.1))
      | inr other ↦
          let test : ((bit - bit % 64) == m.start) ≡ false = ne_eqb (bit - bit % 64) m.start other in
          let from : bit - bit % 64 ≤ m.start = h.0.0 in
          let whole : m.start % 64 ≡ 0 = h.0.1 in
          rw test ((le, omega arith, some, (omega arith, h.0.1, h.0.2, h.0.3)), ((omega arith, small), h.1))
    ]

-- ---- the set of bits

pub set_of-set : (least : ℕ) (bits : List ℕ) → RisesFrom least bits → AllByRecursion (λ b. b < 2 ^ 32) bits → IsSetFrom (least - least % 64) (set_of bits)
unfolding set_of
set_of-set least [] h fits = (tt, tt)
set_of-set least (bit ∷ bits) h fits =
    let rest = set_of-set (bit + 1) bits h.1 fits.1 in
    let first : least ≤ bit = h.0 in
    with_node-set (least - least % 64) bit (set_of bits) fits.0 (omega arith) (later (bit - bit % 64) (bit + 1 - (bit + 1) % 64) (set_of bits) rest.0 (omega arith), rest.1)

has-from_bits : (bits : List ℕ) (c : ℕ) → Contains bits c → has_bit (set_of bits) c ≡ true
unfolding set_of
has-from_bits [] c h = absurd (contains_nothing c h)
has-from_bits (bit ∷ bits) c h = with_node-has (node_of bit) (set_of bits) c ∙ elim (Contains-append_cases (bit ∷ []) bits c h) [
  | inl here ↦ or_left (node_has c (node_of bit)) (has_bit (set_of bits) c) (node_of-has bit c ∙ eq-eqb c bit (sym (contains_one c bit here)))
  | inr there ↦ or_right (node_has c (node_of bit)) (has_bit (set_of bits) c) (has-from_bits bits c there)
]

bits-from_has : (bits : List ℕ) (c : ℕ) → has_bit (set_of bits) c ≡ true → Contains bits c
unfolding set_of
bits-from_has [] c e = absurd (cc)
bits-from_has (bit ∷ bits) c e = elim (or_cases (node_has c (node_of bit)) (has_bit (set_of bits) c) (sym (with_node-has (node_of bit) (set_of bits) c) ∙ e)) [
  | inl here ↦
      let same : c ≡ bit = eqb-true c bit (sym (node_of-has bit c) ∙ here) in
      rw same (contains_first bit bits)
  | inr there ↦ Contains-append_right (bit ∷ []) bits c (bits-from_has bits c there)
]

pub set_of-bits : (least : ℕ) (bits : List ℕ) → RisesFrom least bits → AllByRecursion (λ b. b < 2 ^ 32) bits → bits_of (set_of bits) ≡ bits
set_of-bits least bits h fits =
    let set = set_of-set least bits h fits in
    rises_same (least - least % 64) least (bits_of (set_of bits)) bits (bits_rise (least - least % 64) (set_of bits) set.0) h λ c. (
      λ there. bits-from_has bits c (has_bit-from_bits (set_of bits) c there),
      λ there. bits-from_has_bit (set_of bits) c (has-from_bits bits c there),
    )

pub each-fits : (bits : List ℕ) → All (λ b. b < 2 ^ 32) bits → AllByRecursion (λ b. b < 2 ^ 32) bits
each-fits [] h = tt
each-fits (bit ∷ bits) h = (All-head (λ b. b < 2 ^ 32) bit bits h, each-fits bits (All-tail (λ b. b < 2 ^ 32) bit bits h))

same-test : (p q : Bool) → (p ≡ true → q ≡ true) → (q ≡ true → p ≡ true) → p ≡ q
same-test true q h k = sym (h refl)
same-test false true h k = k refl
same-test false false h k = refl

-- A set is the set of its bits.
pub set_of_its_bits : (s : List Node) → IsSet s → s ≡ set_of (bits_of s)
set_of_its_bits s h =
    let rises = bits_rise 0 s h.0 in
    let set = set_of-set 0 (bits_of s) rises (each-fits (bits_of s) (set_bits_fit s h)) in
    sets_same 0 0 s (set_of (bits_of s)) h set λ c. same-test (has_bit s c) (has_bit (set_of (bits_of s)) c)
    (λ there. has-from_bits (bits_of s) c (bits-from_has_bit s c there))
    (λ there. has_bit-from_bits s c (bits-from_has (bits_of s) c there))

pub set_with_bits : (s : List Node) (bits : List ℕ) → IsSet s → bits_of s ≡ bits → s ≡ set_of bits
set_with_bits s bits h e = set_of_its_bits s h ∙ ap set_of e

-- a set that was made of bits, if memory sufficed
pub made_of_bits : {E : Type 0} (r : Result (List Node) E) (bits : List ℕ) → IfOk r IsSet → IfOk r (λ s. bits_of s ≡ bits) → IfOk r (λ s. s ≡ set_of bits)
made_of_bits (Ok s) bits h e = set_with_bits s bits h e
made_of_bits (Err f) bits h e = tt

-- ---- of bits that rise

increasing-rises : (least : ℕ) (bits : List ℕ) → IsStrictlyIncreasing bits → (0 < length bits → least ≤ slice_index bits 0) → RisesFrom least bits
increasing-rises least [] h low = tt
increasing-rises least (bit ∷ bits) h low = (
  low (omega arith),
  increasing-rises (bit + 1) bits (λ k lt. let e : suc k + 1 ≡ suc (k + 1) = omega arith in rw e at (h (suc k) (omega (arith, lt)))) (λ some. omega (arith, h 0 (omega (arith, some)))),
)

rising : (bits : List ℕ) → IsStrictlyIncreasing bits → RisesFrom 0 bits
rising bits h = increasing-rises 0 bits h (λ some. omega arith)

pub rising_set : (bits : List ℕ) → IsStrictlyIncreasing bits → All (λ bit. bit < 2 ^ 32) bits → IsSet (set_of bits)
rising_set bits h fit = set_of-set 0 bits (rising bits h) (each-fits bits fit)

pub rising_bits : (bits : List ℕ) → IsStrictlyIncreasing bits → All (λ bit. bit < 2 ^ 32) bits → bits_of (set_of bits) ≡ bits
rising_bits bits h fit = set_of-bits 0 bits (rising bits h) (each-fits bits fit)

pub range-rises : (a n : ℕ) → RisesFrom a (range_with_len a n)
range-rises a zero = tt
range-rises a (suc n) = (omega arith, range-rises (a + 1) n)
