-- A set that gains a bit above all of its own.
use Rattle.std.proofs.Common.{◌≡◌, ◌↔◌, inl, inr, ℕ, zero, suc, ◌+◌, ◌-◌, ◌*◌, ◌%◌, ◌^◌, ◌<◌, ◌≤◌, Bool, true, false, ◌||◌, List, [], ◌∷◌, ◌++◌, length, length-take, take, get_or, set, refl, sym, ap, subst, ◌∙◌, arith}
use Rattle.std.specs.Prelude.{bit_or, ◌==◌, ◌&&◌, nat_le, nat_lt, IsTrue}
use Rattle.std.specs.Int.{bit_at, w64}
use Rattle.std.specs.Int.Bits.{or_zero_l}
use Rattle.std.specs.List.{All, IsAllAdjacentAnswer}
use Rattle.std.specs.List.Sorted.{IsStrictlyIncreasing}
use Rattle.std.proofs.lemmas.Nat.{or_lt, le_or_l}
use Rattle.std.proofs.lemmas.Nat.Bits.{bit_at_set_same, bit_at_set_other, bit_at-zero}
use Rattle.std.proofs.lemmas.Bool.{cases_eq, eqb-true, false≢true, eq-eqb, ne_eqb, and_from, and_parts, le-leb, lt-ltb, leb-true, ltb-true, or_cases, or_left, or_right}
use Rattle.std.proofs.lemmas.List.Elements.{All-contains, All-from_get_or, Contains-append_left, Contains-push, Contains-push_cases}
use Rattle.std.proofs.lemmas.List.{get_or-take}
use Rattle.std.proofs.lemmas.List.Kept.{AllPairs-from_increasing}
use Rattle.std.proofs.lemmas.List.Folds.{list_any-append}
use Rattle.std.proofs.lemmas.Option.{slice_get-get_or}
use Rattle.pol_cursor.proofs.BitPlaces.{or_nothing}
use Rattle.pol_bitmap.specs.declared.node.Node.{Node}
use Rattle.pol_bitmap.specs.Nodes.{IsRisingFrom, bits_of, node_has, has_bit}
use Rattle.pol_bitmap.specs.Sets.{IsSet, IsSetFrom}
use Rattle.pol_bitmap.proofs.NodeBits.{rising_start}
use Rattle.pol_bitmap.proofs.BitLists.{has_bit-from_bits, bits-from_has_bit, bits_rise, rises-append, rises_same}
use Rattle.pol_bitmap.proofs.Merging.{IsRisingTo, fits-more, made-end, no_bit, some_bit}

-- ---- one node

-- the map of a bit
abbrev pub map_of : ℕ → ℕ
map_of bit = 1 * 2 ^ (bit % 64) % 2 ^ 64

with_bit : (g m t : Bool) → (g ≡ true → m ≡ t) → (g && m) ≡ (g && t)
with_bit true m t h = h refl
with_bit false m t h = refl

-- A node that gains a bit has it and those that it had.
node_with : (bit start map c : ℕ) → start ≡ bit - bit % 64 → node_has c (record { start = start; map = bit_or map (map_of bit) }) ≡ (node_has c (record { start = start; map = map }) || (c == bit))
node_with bit start map c e = elim (cases_eq c bit) [
  | inl same ↦
      let k : c - start ≡ bit % 64 = omega arith in
      let one : bit_at (bit_or map (map_of bit)) (c - start) ≡ 1 = rw k (bit_at_set_same w64 map (bit % 64) (omega arith)) in
      let has : node_has c (record { start = start; map = bit_or map (map_of bit) }) ≡ true = and_from _ _ (and_from _ _ (le-leb start c (omega arith)) (lt-ltb c (start + 64) (omega arith))) (eq-eqb _ _ one) in
      has ∙ sym (or_right (node_has c (record { start = start; map = map })) (c == bit) (eq-eqb c bit same))
  | inr other ↦
      rw (ne_eqb c bit other) (with_bit (nat_le start c && nat_lt c (start + 64)) _ _ (λ g.
      let p = and_parts (nat_le start c) (nat_lt c (start + 64)) g in
      let le : start ≤ c = leb-true start c p.0 in
      let lt : c < start + 64 = ltb-true c (start + 64) p.1 in
      let apart : c - start ≡ bit % 64 → ⊥ = λ k. other (omega arith) in
      ap (λ (v : ℕ). v == 1) (bit_at_set_other w64 map (bit % 64) (omega arith) (c - start) apart))
      ∙ sym (or_nothing (node_has c (record { start = start; map = map }))))
]

map_full : (bit : ℕ) → 0 < map_of bit
map_full bit = elim (cases_eq (map_of bit) 0) [
  | inl none ↦
      let one : bit_at (map_of bit) (bit % 64) ≡ 1 = ap (λ (v : ℕ). bit_at v (bit % 64)) (sym (or_zero_l (map_of bit))) ∙ bit_at_set_same w64 0 (bit % 64) (omega arith) in
      absurd (cc (sym one ∙ ap (λ (v : ℕ). bit_at v (bit % 64)) none ∙ bit_at-zero (bit % 64)))
  | inr some ↦ omega arith
]

-- ---- the last node

-- what holds of the last node, if there is one
abbrev pub LastIs : (Node → Type 0) → List Node → Type 0
LastIs P ns = (i : ℕ) (d : Node) → i + 1 ≡ length ns → P (get_or ns i d)

ends_more : (base end : ℕ) (n : Node) (ns : List Node) → end % 64 ≡ 0 → IsRisingFrom base (n ∷ ns) → LastIs (λ m. m.start < end) (n ∷ ns) → IsRisingTo base end (n ∷ ns)
ends_more base end n [] whole h last = let lt : n.start < end = last 0 n (omega arith) in (h.0, h.1, h.2, omega (arith, h.1))
ends_more base end n (m ∷ ms) whole h last = (h.0, h.1, h.2, ends_more (n.start + 64) end m ms whole h.3 (λ i d e. last (suc i) d (omega arith)))

ends_by : (end : ℕ) (ns : List Node) → end % 64 ≡ 0 → IsRisingFrom 0 ns → LastIs (λ n. n.start < end) ns → IsRisingTo 0 end ns
ends_by end [] whole h last = omega arith
ends_by end (n ∷ ns) whole h last = ends_more 0 end n ns whole h last

-- the set that gains a bit
pub record Gains (base bit : ℕ) (old new : List Node) : Type 0 where
  pub is_set : IsSetFrom base new
  pub bits : (c : ℕ) → has_bit new c ≡ (has_bit old c || (c == bit))

-- as a node of its own
pub gains_node : (bit : ℕ) (ns : List Node) → bit < 2 ^ 32 → IsSet ns → LastIs (λ n. n.start < bit - bit % 64) ns → Gains 0 bit ns (ns ++ record { start = bit - bit % 64; map = map_of bit } ∷ [])
gains_node bit ns fit h last =
    let start = bit - bit % 64 in
    let n : Node = record { start = start; map = map_of bit } in
    let whole : start % 64 ≡ 0 = omega arith in
    record {
      is_set = (made-end 0 start ns (n ∷ []) (ends_by start ns whole h.0 last) (omega arith, whole, map_full bit, tt), fits-more ns (n ∷ []) h.1 ((omega arith, omega arith), tt));
      bits = λ c.
          let one : node_has c n ≡ (c == bit) = ap (λ (m : ℕ). node_has c (record { start = start; map = m })) (sym (or_zero_l (map_of bit))) ∙ node_with bit start 0 c refl ∙ ap (λ (b : Bool). b || (c == bit)) (no_bit start c) in
          list_any-append (node_has c) ns (n ∷ []) ∙ ap (λ (b : Bool). has_bit ns c || b) (or_nothing (node_has c n) ∙ one);
    }

or_assoc : (a b c : Bool) → (a || (b || c)) ≡ ((a || b) || c)
or_assoc true b c = refl
or_assoc false b c = refl

-- in its last node
pub gains_last : (base bit : ℕ) (ns : List Node) (i : ℕ) (d : Node) → i + 1 ≡ length ns → IsSetFrom base ns → (get_or ns i d).start ≡ bit - bit % 64
    → Gains base bit ns (set ns i (record { start = (get_or ns i d).start; map = bit_or (get_or ns i d).map (map_of bit) }))
gains_last base bit [] i d e h at = absurd (omega arith)
gains_last base bit (n ∷ []) zero d e h at =
    let fit : map_of bit < 2 ^ 64 = omega arith in
    record {
      is_set = ((h.0.0, h.0.1, omega (arith, h.0.2, le_or_l n.map (map_of bit)), tt), ((h.1.0.0, or_lt 64 n.map (map_of bit) h.1.0.1 fit), tt));
      bits = λ c. or_nothing (node_has c (record { start = n.start; map = bit_or n.map (map_of bit) })) ∙ node_with bit n.start n.map c at ∙ ap (λ (b : Bool). b || (c == bit)) (sym (or_nothing (node_has c n)));
    }
gains_last base bit (n ∷ m ∷ ms) zero d e h at = absurd (omega arith)
gains_last base bit (n ∷ ns) (suc i) d e h at =
    let rest = gains_last (n.start + 64) bit ns i d (omega arith) (h.0.3, h.1.1) at in
    record {
      is_set = ((h.0.0, h.0.1, h.0.2, rest.is_set.0), (h.1.0, rest.is_set.1));
      bits = λ c. ap (λ (b : Bool). node_has c n || b) (rest.bits c) ∙ or_assoc (node_has c n) (has_bit ns c) (c == bit);
    }

-- the nodes of lower bits start below the bit
pub starts_below : (base bit : ℕ) (ns : List Node) (i : ℕ) (d : Node) → i < length ns → IsSetFrom base ns → ((c : ℕ) → has_bit ns c ≡ true → c < bit) → (get_or ns i d).start < bit
starts_below base bit [] i d lt h below = absurd (omega arith)
starts_below base bit (n ∷ ns) zero d lt h below =
    let one = some_bit n h.0.2 h.1.0.1 in
    let under : one.0 < bit = below one.0 (or_left (node_has one.0 n) (has_bit ns one.0) one.1) in
    let from : n.start ≤ one.0 = leb-true n.start one.0 (and_parts (nat_le n.start one.0) _ (and_parts (nat_le n.start one.0 && nat_lt one.0 (n.start + 64)) _ one.1).0).0 in
    omega arith
starts_below base bit (n ∷ ns) (suc i) d lt h below = starts_below (n.start + 64) bit ns i d (omega arith) (h.0.3, h.1.1) (λ c there. below c (or_right (node_has c n) (has_bit ns c) there))

pub last_starts : (bit : ℕ) (ns : List Node) (i : ℕ) (d : Node) → i + 1 ≡ length ns → IsSet ns → All (λ c. c < bit) (bits_of ns) → bit - bit % 64 ≤ (get_or ns i d).start → (get_or ns i d).start ≡ bit - bit % 64
last_starts bit ns i d e h below le =
    let lt = starts_below 0 bit ns i d (omega arith) h (λ c there. All-contains (λ (c : ℕ). c < bit) (bits_of ns) c below (bits-from_has_bit ns c there)) in
    let whole = rising_start 0 ns i (get_or ns i d) h.0 (slice_get-get_or ns i d (omega arith)) in
    omega arith

-- A bit above all others is the last of the list.
pub gains_list : (bit : ℕ) (old new : List Node) → IsSet old → All (λ c. c < bit) (bits_of old) → Gains 0 bit old new → bits_of new ≡ bits_of old ++ bit ∷ []
gains_list bit old new h below g =
    rises_same 0 0 (bits_of new) (bits_of old ++ bit ∷ []) (bits_rise 0 new g.is_set.0) (rises-append 0 bit (bits_of old) (bit ∷ []) (omega arith) (bits_rise 0 old h.0) below (omega arith, tt)) λ c. (
      λ there. elim (or_cases (has_bit old c) (c == bit) (sym (g.bits c) ∙ has_bit-from_bits new c there)) [
        | inl before ↦ Contains-append_left (bits_of old) (bit ∷ []) c (bits-from_has_bit old c before)
        | inr last ↦ rw (eqb-true c bit last) (Contains-push (bits_of old) bit)
      ],
      λ there. bits-from_has_bit new c (g.bits c ∙ elim (Contains-push_cases (bits_of old) bit c there) [
        | inl before ↦ or_left (has_bit old c) (c == bit) (has_bit-from_bits old c before)
        | inr last ↦ or_right (has_bit old c) (c == bit) (eq-eqb c bit (sym last))
      ]),
    )

-- ---- numbers that rise

pub rises_answer : (xs : List ℕ) (r : Bool) → IsAllAdjacentAnswer (λ x y b. b ≡ nat_lt x y) xs r → IsTrue r ↔ IsStrictlyIncreasing xs
rises_answer xs true h = (λ t k lt. ltb-true _ _ (sym (h k 0 lt)), λ all. refl)
rises_answer xs false h = (λ t. absurd (false≢true t), λ all. absurd (false≢true (h.2 0 ∙ lt-ltb _ _ (all h.0 h.1))))

-- the numbers before one are below it
pub before_below : (xs : List ℕ) (i : ℕ) → IsStrictlyIncreasing xs → i < length xs → All (λ c. c < get_or xs i 0) (take i xs)
before_below xs i h lt = All-from_get_or (λ c. c < get_or xs i 0) (take i xs) 0 λ k within.
    let before : k < i = omega (arith, within, length-take i xs) in
    rw (get_or-take i xs k 0 before) (AllPairs-from_increasing xs h k i 0 before lt)

-- ---- as the code knows them

same_place : (ns : List Node) (i : ℕ) (n m : Node) → i < length ns → n ≡ get_or ns i n → m ≡ get_or ns i m → n ≡ m
same_place ns i n m lt p q =
    let a = slice_get-get_or ns i n lt in
    let b = slice_get-get_or ns i m lt in
    cc

pub last_is : (P : Node → Type 0) (ns : List Node) (i : ℕ) (n : Node) → i + 1 ≡ length ns → n ≡ get_or ns i n → P n → LastIs P ns
last_is P ns i n e is p j d f =
    let same : j ≡ i = omega arith in
    let a = slice_get-get_or ns i n (omega arith) in
    let b = slice_get-get_or ns j d (omega arith) in
    let here : n ≡ get_or ns j d = cc in
    subst P here p

pub joins_last : (bit : ℕ) (ns : List Node) (i : ℕ) (n m : Node) → i + 1 ≡ length ns → IsSet ns → All (λ c. c < bit) (bits_of ns) → n ≡ get_or ns i n → m ≡ get_or ns i m → bit - bit % 64 ≤ n.start
    → Gains 0 bit ns (set ns i (record { start = m.start; map = bit_or m.map (map_of bit) }))
joins_last bit ns i n m e h below is at le =
    let same : n ≡ get_or ns i m = same_place ns i n m (omega arith) is at ∙ at in
    let from : bit - bit % 64 ≤ (get_or ns i m).start = rw (← same) le in
    subst (λ (k : Node). Gains 0 bit ns (set ns i (record { start = k.start; map = bit_or k.map (map_of bit) }))) (sym at) (gains_last 0 bit ns i m e h (last_starts bit ns i m e h below from))
