-- How the words of the bits and the lists of the attributes grow.
use Rattle.std.proofs.Common.{◌≡◌, inl, inr, ℕ, zero, suc, ◌+◌, ◌-◌, ◌*◌, ◌%◌, ◌^◌, ◌<◌, ◌≤◌, Bool, true, false, List, [], ◌∷◌, ◌++◌, length, map, set, get_or, take, drop, refl, sym, ap, ◌∙◌, cond, append-nil, arith}
use Rattle.std.specs.Prelude.{◌==◌, ◌&&◌, ◌||◌, nat_lt, bit_or, slice_index_or}
use Rattle.std.specs.Int.{bit_at, w64}
use Rattle.std.specs.List.{All, Contains, filter, list_any, range_with_len}
use Rattle.std.specs.List.Sorted.{IsStrictlyIncreasing}
use Rattle.std.proofs.lemmas.Bool.{cases_eq, eqb-true, eq-eqb, ne_eqb, or_left, or_right, cases_Bool, cases_lt, lt-ltb, le-ltb}
use Rattle.std.proofs.lemmas.Nat.Bits.{bit_at_set_same, bit_at_set_other, bit_at-zero}
use Rattle.std.proofs.lemmas.List.{get_or-set_same, get_or-set_other, length-set, take-append-le, take_all}
use Rattle.std.proofs.lemmas.List.Elements.{All-contains, All-filter, All-weaker, filter-append}
use Rattle.std.proofs.lemmas.List.Folds.{list_any_at, list_any_more, list_any_none}
use Rattle.std.proofs.lemmas.Map.Views.{Contains-from_any}
use Rattle.pol_cursor.proofs.BitPlaces.{or_nothing}
use Rattle.pol_cursor.proofs.Ranges.{range_split}
use Rattle.pol_bitmap.specs.declared.node.Node.{Node}
use Rattle.pol_bitmap.specs.Nodes.{bits_of, node_has, node_bits, has_bit}
use Rattle.pol_bitmap.proofs.BitLists.{has_bit-from_bits, bits-from_has_bit}
use Rattle.pol_bitmap.proofs.Elements.{contains_range, keeps, range_holds}
use Rattle.pol_bitmap.specs.Sets.{IsSet, IsSetFrom}
use Rattle.pol_bitmap.proofs.LowestBits.{no_bits}
use Rattle.pol_bitmap.proofs.Merging.{IsRisingTo, fits-more, made-end}
use Rattle.pol_bitmap.proofs.SetMaking.{before_below, starts_below}
use Rattle.pol_expand.specs.Expansion.{HaveRows, row_of}
use Rattle.pol_expand.specs.Inner.Inverting.{attribute_bits, has_attribute, is_one_of, word_has_type, GainType, AreWords, HaveRoom, GainNodes, AreListsBelow, AreLists}
use Rattle.pol_expand.proofs.Values.{filter_rises, same_tests}

-- ---- bits

-- what is among some is one of them
any_from : (bit : ℕ) (xs : List ℕ) → Contains xs bit → is_one_of xs bit ≡ true
any_from bit [] (k, lt, is) = absurd (omega arith)
any_from bit (x ∷ xs) (zero, lt, is) = let same : bit ≡ x = cc in or_left (bit == x) (is_one_of xs bit) (eq-eqb bit x same)
any_from bit (x ∷ xs) (suc k, lt, is) = or_right (bit == x) (is_one_of xs bit) (any_from bit xs (k, omega (arith, lt), is))

from_any : (bit : ℕ) (xs : List ℕ) → is_one_of xs bit ≡ true → Contains xs bit
from_any bit xs h = Contains-from_any {eq = ◌==◌} eqb-true bit xs h

-- the bits of the attributes are those of their values
pub attribute_bit : (attributes : List Node) (n bit : ℕ) → bit < n → has_bit attributes (bit + 1) ≡ true → is_one_of (attribute_bits attributes n) bit ≡ true
attribute_bit attributes n bit lt is = any_from bit (attribute_bits attributes n) (keeps (λ b. has_bit attributes (b + 1)) (range_with_len 0 n) bit (contains_range 0 n bit (omega arith) (omega (arith, lt))) is)

pub attribute_bits_within : (attributes : List Node) (n : ℕ) → All (λ bit. bit < n) (attribute_bits attributes n)
attribute_bits_within attributes n = All-filter (λ b. has_bit attributes (b + 1)) (λ (bit : ℕ). bit < n) (range_with_len 0 n)
    (All-weaker (λ (bit : ℕ). (0 ≤ bit) × (bit < 0 + n)) (λ (bit : ℕ). bit < n) (λ bit w. omega (arith, w.1)) (range_with_len 0 n) (range_holds 0 n))

pub attribute_bits_rise : (attributes : List Node) (n : ℕ) → IsStrictlyIncreasing (attribute_bits attributes n)
attribute_bits_rise attributes n = filter_rises (λ b. has_bit attributes (b + 1)) 0 n

pub one_within : (bits : List ℕ) (n bit : ℕ) → All (λ b. b < n) bits → is_one_of bits bit ≡ true → bit < n
one_within bits n bit within is = All-contains (λ (b : ℕ). b < n) bits bit within (from_any bit bits is)

-- ---- one type

-- a bit of a word that is set
word_with : (word place k : ℕ) → place < 64 → (bit_at (bit_or word (1 * 2 ^ place % 2 ^ 64)) k == 1) ≡ ((bit_at word k == 1) || (k == place))
word_with word place k lt = elim (cases_eq k place) [
  | inl same ↦
      let is : bit_at (bit_or word (1 * 2 ^ place % 2 ^ 64)) k ≡ 1 = rw same (bit_at_set_same w64 word place lt) in
      eq-eqb _ _ is ∙ sym (or_right (bit_at word k == 1) (k == place) (eq-eqb k place same))
  | inr other ↦
      ap (λ (v : ℕ). v == 1) (bit_at_set_other w64 word place lt k other)
      ∙ sym (ap (λ (b : Bool). (bit_at word k == 1) || b) (ne_eqb k place other) ∙ or_nothing (bit_at word k == 1))
]

or_false : (a b : Bool) → b ≡ false → (a || b) ≡ a
or_false a b e = rw e (or_nothing a)

and_false : (a b : Bool) → b ≡ false → (a && b) ≡ false
and_false true b e = e
and_false false b e = refl

-- the word of a bit gains a type
pub gains_bit : (words : List ℕ) (bit place : ℕ) → place < 64 → bit < length words → GainType place (λ other. other == bit) words (set words bit (bit_or (get_or words bit 0) (1 * 2 ^ place % 2 ^ 64)))
gains_bit words bit place lt within =
    let new = bit_or (get_or words bit 0) (1 * 2 ^ place % 2 ^ 64) in
    record {
      count = length-set words bit new;
      each = λ other k inside low. elim (cases_eq other bit) [
        | inl same ↦
            ap (λ (i : ℕ). bit_at (get_or (set words bit new) i 0) k == 1) same
            ∙ ap (λ (w : ℕ). bit_at w k == 1) (get_or-set_same words bit new 0 within)
            ∙ word_with (get_or words bit 0) place k lt
            ∙ ap (λ (i : ℕ). (bit_at (get_or words i 0) k == 1) || (k == place)) (sym same)
            ∙ ap (λ (b : Bool). (bit_at (get_or words other 0) k == 1) || b) (sym (and_true (k == place) (other == bit) (eq-eqb other bit same)))
        | inr apart ↦
            ap (λ (w : ℕ). bit_at w k == 1) (get_or-set_other words bit other new 0 apart)
            ∙ sym (or_false (word_has_type words other k) ((k == place) && (other == bit)) (and_false (k == place) (other == bit) (ne_eqb other bit apart)))
      ];
    }
  where
    and_true : (a b : Bool) → b ≡ true → (a && b) ≡ a
    and_true true b e = e
    and_true false b e = refl

-- a bit that has no word
pub gains_nowhere : (words : List ℕ) (bit place : ℕ) → length words ≤ bit → GainType place (λ other. other == bit) words words
gains_nowhere words bit place past = record {
  count = refl;
  each = λ other k inside low. sym (or_false (word_has_type words other k) ((k == place) && (other == bit)) (and_false (k == place) (other == bit) (ne_eqb other bit (λ (e : other ≡ bit). omega (arith, e, inside, past)))));
}

-- ---- the bits of a row

-- what is among the bits of a row is what the row has
row_bits : (bit : ℕ) (row : List Node) → list_any (λ x. bit == x) (bits_of row) ≡ has_bit row bit
row_bits bit row = same_tests _ (has_bit row bit) (λ t. has_bit-from_bits row bit (from_any bit (bits_of row) t)) (λ t. any_from bit (bits_of row) (bits-from_has_bit row bit t))

-- some of a row's bits are added, and others left
pub record Gaining (place : ℕ) (all left : List ℕ) (old now : List ℕ) : Type 0 where
  pub count : length now ≡ length old
  pub each : (bit k : ℕ) → bit < length old → k < 64 → (word_has_type now bit k || ((k == place) && list_any (λ x. bit == x) left)) ≡ (word_has_type old bit k || ((k == place) && list_any (λ x. bit == x) all))

pub gaining_start : (place : ℕ) (all words : List ℕ) → Gaining place all all words words
gaining_start place all words = record { count = refl; each = λ bit k inside low. refl }

spread : (a p x y : Bool) → ((a || (p && x)) || (p && y)) ≡ (a || (p && (x || y)))
spread true p x y = refl
spread false true x y = refl
spread false false x y = refl

pub gaining_next : (place : ℕ) (all : List ℕ) (x : ℕ) (left : List ℕ) (old now next : List ℕ) → Gaining place all (x ∷ left) old now → GainType place (λ other. other == x) now next → Gaining place all left old next
gaining_next place all x left old now next h g = record {
  count = g.count ∙ h.count;
  each = λ bit k inside low.
      ap (λ (b : Bool). b || ((k == place) && list_any (λ y. bit == y) left)) (g.each bit k (omega (arith, h.count, inside)) low)
      ∙ spread (word_has_type now bit k) (k == place) (bit == x) (list_any (λ y. bit == y) left)
      ∙ h.each bit k inside low;
}

pub gaining_end : (place : ℕ) (row : List Node) (old now : List ℕ) → Gaining place (bits_of row) [] old now → GainType place (has_bit row) old now
gaining_end place row old now h = record {
  count = h.count;
  each = λ bit k inside low.
      sym (or_false (word_has_type now bit k) ((k == place) && false) (and_false (k == place) false refl))
      ∙ h.each bit k inside low
      ∙ ap (λ (b : Bool). word_has_type old bit k || ((k == place) && b)) (row_bits bit row);
}

-- ---- a type that is declared, or not

pub gains_row : (rows : List (List Node)) (types : List Node) (value place : ℕ) (row : List Node) (old new : List ℕ) → has_bit types value ≡ true → row ≡ row_of rows value → GainType place (has_bit row) old new
    → GainType place (λ bit. has_attribute rows types bit value) old new
gains_row rows types value place row old new declared is g = record {
  count = g.count;
  each = λ bit k inside low. g.each bit k inside low ∙ ap (λ (b : Bool). word_has_type old bit k || ((k == place) && b)) (ap (λ (ns : List Node). has_bit ns bit) is ∙ ap (λ (b : Bool). b && has_bit (row_of rows value) bit) (sym declared));
}

pub gains_none : (rows : List (List Node)) (types : List Node) (value place : ℕ) (words : List ℕ) → has_bit types value ≡ false → GainType place (λ bit. has_attribute rows types bit value) words words
gains_none rows types value place words not = record {
  count = refl;
  each = λ bit k inside low. sym (or_false (word_has_type words bit k) ((k == place) && has_attribute rows types bit value) (and_false (k == place) (has_attribute rows types bit value) (ap (λ (b : Bool). b && has_bit (row_of rows value) bit) not)));
}

-- a declared type has a row
pub has_row : (rows : List (List Node)) (types : List Node) (value : ℕ) → HaveRows rows types → has_bit types value ≡ true → (1 ≤ value) × (value ≤ length rows)
has_row rows types value have is = All-contains (λ (v : ℕ). (1 ≤ v) × (v ≤ length rows)) (bits_of types) value have (bits-from_has_bit types value is)

-- ---- 64 types

pub words_start : (rows : List (List Node)) (types : List Node) (start : ℕ) (words : List ℕ) → length words ≡ length rows → ((bit : ℕ) → slice_index_or words bit 0 ≡ 0) → AreWords rows types start 0 words
words_start rows types start words count nothing = record {
  count = count;
  each = λ bit k inside low. ap (λ (w : ℕ). bit_at w k == 1) (nothing bit) ∙ ap (λ (b : ℕ). b == 1) (bit_at-zero k) ∙ ap (λ (b : Bool). b && has_attribute rows types bit (start + k)) (sym (le-ltb k 0 (omega arith)));
}

more_places : (k place : ℕ) (there here : Bool) → (k ≡ place → there ≡ here) → ((nat_lt k place && there) || ((k == place) && here)) ≡ (nat_lt k (place + 1) && there)
more_places k place there here same = elim (cases_lt k place) [
  | inl lt ↦ rw (lt-ltb k place lt, lt-ltb k (place + 1) (omega (arith, lt)), ne_eqb k place (λ (e : k ≡ place). omega (arith, e, lt))) (or_nothing there)
  | inr le ↦ elim (cases_eq k place) [
    | inl e ↦ rw (le-ltb k place le, lt-ltb k (place + 1) (omega (arith, e)), eq-eqb k place e) (sym (same e))
    | inr n ↦ rw (le-ltb k place le, le-ltb k (place + 1) (omega (arith, le, n)), ne_eqb k place n) refl
  ]
]

pub words_next : (rows : List (List Node)) (types : List Node) (start place value : ℕ) (words next : List ℕ) → value ≡ start + place → AreWords rows types start place words → GainType place (λ bit. has_attribute rows types bit value) words next
    → AreWords rows types start (place + 1) next
words_next rows types start place value words next e h g = record {
  count = g.count ∙ h.count;
  each = λ bit k inside low.
      g.each bit k (omega (arith, g.count, inside)) low
      ∙ ap (λ (b : Bool). b || ((k == place) && has_attribute rows types bit value)) (h.each bit k (omega (arith, g.count, inside)) low)
      ∙ more_places k place (has_attribute rows types bit (start + k)) (has_attribute rows types bit value) (λ at. ap (has_attribute rows types bit) (ap (λ (i : ℕ). start + i) at ∙ sym e));
}

-- ---- the lists

filter_agree : (p q : ℕ → Bool) (a n : ℕ) → ((c : ℕ) → a ≤ c → c < a + n → p c ≡ q c) → filter p (range_with_len a n) ≡ filter q (range_with_len a n)
filter_agree p q a zero h = refl
filter_agree p q a (suc n) h =
    let rest = filter_agree p q (a + 1) n (λ c low high. h c (omega arith) (omega arith)) in
    ap (λ (xs : List ℕ). cond (p a) (a ∷ xs) xs) rest ∙ ap (λ (b : Bool). cond b (a ∷ filter q (range_with_len (a + 1) n)) (filter q (range_with_len (a + 1) n))) (h a (omega arith) (omega arith))

filter_none : (p : ℕ → Bool) (a n : ℕ) → ((c : ℕ) → a ≤ c → c < a + n → p c ≡ false) → filter p (range_with_len a n) ≡ []
filter_none p a zero h = refl
filter_none p a (suc n) h = rw (h a (omega arith) (omega arith)) (filter_none p (a + 1) n (λ c low high. h c (omega arith) (omega arith)))

from_zero : (k : ℕ) → 0 + k ≡ k
from_zero k = omega arith

filter_parts : (p : ℕ → Bool) (a n m : ℕ) → filter p (range_with_len a (n + m)) ≡ filter p (range_with_len a n) ++ filter p (range_with_len (a + n) m)
filter_parts p a n m = ap (filter p) (range_split a n m) ∙ filter-append p (range_with_len a n) (range_with_len (a + n) m)

-- the types of a word
word_types : (rows : List (List Node)) (types : List Node) (start bit : ℕ) (words : List ℕ) → AreWords rows types start 64 words → bit < length words
    → node_bits (record { start = start; map = slice_index_or words bit 0 }) ≡ filter (has_attribute rows types bit) (range_with_len start 64)
unfolding node_bits
word_types rows types start bit words h within = filter_agree (λ type. bit_at (slice_index_or words bit 0) (type - start) == 1) (has_attribute rows types bit) start 64 λ type low high.
    let k : type - start < 64 = omega arith in
    let at : start + (type - start) ≡ type = omega arith in
    h.each bit (type - start) within k ∙ ap (λ (b : Bool). b && has_attribute rows types bit (start + (type - start))) (lt-ltb (type - start) 64 k) ∙ ap (has_attribute rows types bit) at

-- a node behind those of lower bits
rising_to : (base end : ℕ) (ns : List Node) → end % 64 ≡ 0 → base ≤ end → IsSetFrom base ns → ((c : ℕ) → has_bit ns c ≡ true → c < end) → IsRisingTo base end ns
rising_to base end [] whole le h below = le
rising_to base end (n ∷ ns) whole le h below =
    let lt : n.start < end = starts_below base end (n ∷ ns) 0 n (omega arith) h below in
    (h.0.0, h.0.1, h.0.2, rising_to (n.start + 64) end ns whole (omega (arith, lt, whole, h.0.1)) (h.0.3, h.1.1) (λ c there. below c (or_right (node_has c n) (has_bit ns c) there)))

pub node_behind : (ns : List Node) (start map : ℕ) → IsSet ns → start % 64 ≡ 0 → start < 2 ^ 32 → 0 < map → map < 2 ^ 64 → All (λ c. c < start) (bits_of ns) → IsSet (ns ++ record { start = start; map = map } ∷ [])
node_behind ns start map h whole fit some map_fit below =
    let n : Node = record { start = start; map = map } in
    let to = rising_to 0 start ns whole (omega arith) h (λ c there. All-contains (λ (c : ℕ). c < start) (bits_of ns) c below (bits-from_has_bit ns c there)) in
    (made-end 0 start ns (n ∷ []) to (omega arith, whole, some, tt), fits-more ns (n ∷ []) h.1 ((fit, map_fit), tt))

pub nothing_behind : (types : List ℕ) (start map : ℕ) → map ≡ 0 → types ≡ types ++ node_bits (record { start = start; map = map })
nothing_behind types start map none = sym (ap (λ (xs : List ℕ). types ++ xs) (no_bits (record { start = start; map = map }) none) ∙ append-nil types)

-- the lists of the first of some bits have gained the types of their words, and the others are left
pub record Pushing (bits : List ℕ) (start : ℕ) (words : List ℕ) (i : ℕ) (old now : List (List ℕ)) : Type 0 where
  pub count : length now ≡ length old
  pub each : (bit : ℕ) → is_one_of bits bit ≡ true → slice_index_or now bit [] ≡ slice_index_or old bit [] ++ cond (is_one_of (take i bits) bit) (node_bits (record { start = start; map = slice_index_or words bit 0 })) []

pub pushing_start : (bits : List ℕ) (start : ℕ) (words : List ℕ) (old : List (List ℕ)) → Pushing bits start words 0 old old
pushing_start bits start words old = record { count = refl; each = λ bit is. sym (append-nil (slice_index_or old bit [])) }

-- the next bit has not come yet, as they rise
not_yet : (bits : List ℕ) (i bit : ℕ) → IsStrictlyIncreasing bits → i < length bits → bit ≡ get_or bits i 0 → is_one_of (take i bits) bit ≡ false
not_yet bits i bit rise lt e = list_any_none (λ other. bit == other) (take i bits)
    (All-weaker (λ (c : ℕ). c < get_or bits i 0) (λ (c : ℕ). (bit == c) ≡ false) (λ c below. ne_eqb bit c (λ (same : bit ≡ c). omega (arith, e, same, below))) (take i bits) (before_below bits i rise lt))

next_is_one : (bits : List ℕ) (i bit : ℕ) → i < length bits → bit ≡ get_or bits i 0 → is_one_of bits bit ≡ true
next_is_one bits i bit lt e = list_any_at (λ other. bit == other) bits i 0 lt (eq-eqb bit (get_or bits i 0) e)

-- the list of the next bit has what it had
pub pushing_here : (bits : List ℕ) (start : ℕ) (words : List ℕ) (i bit : ℕ) (old now : List (List ℕ)) → Pushing bits start words i old now → IsStrictlyIncreasing bits → i < length bits → bit ≡ get_or bits i 0 → slice_index_or now bit [] ≡ slice_index_or old bit []
pushing_here bits start words i bit old now h rise lt e =
    h.each bit (next_is_one bits i bit lt e)
    ∙ ap (λ (b : Bool). slice_index_or old bit [] ++ cond b (node_bits (record { start = start; map = slice_index_or words bit 0 })) []) (not_yet bits i bit rise lt e)
    ∙ append-nil (slice_index_or old bit [])

-- so that it has room
pub pushing_room : (bits : List ℕ) (start : ℕ) (words : List ℕ) (i bit : ℕ) (old now : List (List ℕ)) → Pushing bits start words i old now → IsStrictlyIncreasing bits → i < length bits → bit ≡ get_or bits i 0 → HaveRoom bits start old
    → All (λ other. other < start) (slice_index_or now bit [])
pushing_room bits start words i bit old now h rise lt e room = rw (pushing_here bits start words i bit old now h rise lt e) (room bit (next_is_one bits i bit lt e))

one_further : (bits : List ℕ) (i bit : ℕ) → i < length bits → is_one_of (take (i + 1) bits) bit ≡ (is_one_of (take i bits) bit || (bit == get_or bits i 0))
one_further bits i bit lt = list_any_more (λ other. bit == other) bits i 0 lt

pub pushing_next : (bits : List ℕ) (start : ℕ) (words : List ℕ) (i at : ℕ) (old now : List (List ℕ)) (list : List ℕ) → Pushing bits start words i old now → IsStrictlyIncreasing bits → i < length bits → at ≡ get_or bits i 0 → at < length now
    → list ≡ slice_index_or now at [] ++ node_bits (record { start = start; map = slice_index_or words at 0 }) → Pushing bits start words (i + 1) old (set now at list)
pushing_next bits start words i at old now list h rise lt is inside e = record {
  count = length-set now at list ∙ h.count;
  each = λ bit one. elim (cases_eq bit at) [
    | inl same ↦
        ap (λ (k : ℕ). slice_index_or (set now at list) k []) same
        ∙ get_or-set_same now at list [] inside
        ∙ e
        ∙ ap (λ (xs : List ℕ). xs ++ node_bits (record { start = start; map = slice_index_or words at 0 })) (pushing_here bits start words i at old now h rise lt is)
        ∙ ap (λ (k : ℕ). slice_index_or old k [] ++ node_bits (record { start = start; map = slice_index_or words k 0 })) (sym same)
        ∙ ap (λ (b : Bool). slice_index_or old bit [] ++ cond b (node_bits (record { start = start; map = slice_index_or words bit 0 })) [])
        (sym (one_further bits i bit lt ∙ or_right (is_one_of (take i bits) bit) (bit == get_or bits i 0) (eq-eqb bit (get_or bits i 0) (same ∙ is))))
    | inr apart ↦
        get_or-set_other now at bit list [] apart
        ∙ h.each bit one
        ∙ ap (λ (b : Bool). slice_index_or old bit [] ++ cond b (node_bits (record { start = start; map = slice_index_or words bit 0 })) [])
        (sym (one_further bits i bit lt ∙ or_false (is_one_of (take i bits) bit) (bit == get_or bits i 0) (ne_eqb bit (get_or bits i 0) (λ (same : bit ≡ get_or bits i 0). apart (same ∙ sym is)))))
  ];
}

pub pushing_end : (bits : List ℕ) (start : ℕ) (words : List ℕ) (i : ℕ) (old now : List (List ℕ)) → Pushing bits start words i old now → length bits ≡ i → GainNodes bits start words old now
pushing_end bits start words i old now h all = record {
  count = h.count;
  each = λ bit is.
      h.each bit is
      ∙ ap (λ (b : Bool). slice_index_or old bit [] ++ cond b (node_bits (record { start = start; map = slice_index_or words bit 0 })) [])
      (ap (λ (xs : List ℕ). is_one_of xs bit) (take_all i bits (omega (arith, all))) ∙ is);
}

-- the types below a number leave room for others
pub lists_room : (rows : List (List Node)) (types : List Node) (bits : List ℕ) (n : ℕ) (lists : List (List ℕ)) → AreListsBelow rows types bits n lists → HaveRoom bits n lists
lists_room rows types bits n lists h bit is = rw (h.each bit is) (All-filter (has_attribute rows types bit) (λ (other : ℕ). other < n) (range_with_len 0 n)
    (All-weaker (λ (other : ℕ). (0 ≤ other) × (other < 0 + n)) (λ (other : ℕ). other < n) (λ other w. omega (arith, w.1)) (range_with_len 0 n) (range_holds 0 n)))

pub lists_start : (rows : List (List Node)) (types : List Node) (bits : List ℕ) (lists : List (List ℕ)) → length lists ≡ length rows → ((bit : ℕ) → slice_index_or lists bit [] ≡ []) → AreListsBelow rows types bits 0 lists
lists_start rows types bits lists count nothing = record { count = count; each = λ bit is. nothing bit }

pub lists_next : (rows : List (List Node)) (types : List Node) (bits : List ℕ) (start : ℕ) (words : List ℕ) (lists next : List (List ℕ)) → All (λ bit. bit < length rows) bits → AreListsBelow rows types bits start lists → AreWords rows types start 64 words
    → GainNodes bits start words lists next → AreListsBelow rows types bits (start + 64) next
lists_next rows types bits start words lists next within h w g = record {
  count = g.count ∙ h.count;
  each = λ bit is.
      g.each bit is
      ∙ ap (λ (xs : List ℕ). xs ++ node_bits (record { start = start; map = slice_index_or words bit 0 })) (h.each bit is)
      ∙ ap (λ (xs : List ℕ). filter (has_attribute rows types bit) (range_with_len 0 start) ++ xs) (word_types rows types start bit words w (omega (arith, one_within bits (length rows) bit within is, w.count)))
      ∙ sym (filter_parts (has_attribute rows types bit) 0 start 64 ∙ ap (λ (a : ℕ). filter (has_attribute rows types bit) (range_with_len 0 start) ++ filter (has_attribute rows types bit) (range_with_len a 64)) (from_zero start));
}

-- no type but those that have a row
none_outside : (rows : List (List Node)) (types : List Node) (bit value : ℕ) → HaveRows rows types → ((1 ≤ value) × (value ≤ length rows) → ⊥) → has_attribute rows types bit value ≡ false
none_outside rows types bit value have out = elim (cases_Bool (has_bit types value)) [
  | inl is ↦ absurd (out (has_row rows types value have is))
  | inr not ↦ ap (λ (b : Bool). b && has_bit (row_of rows value) bit) not
]

pub lists_end : (rows : List (List Node)) (attributes types : List Node) (bits : List ℕ) (n : ℕ) (lists : List (List ℕ)) → bits ≡ attribute_bits attributes (length rows) → HaveRows rows types → length rows < n → AreListsBelow rows types bits n lists
    → AreLists rows attributes types lists
lists_end rows attributes types bits n lists e have all h = record {
  count = h.count;
  each = λ bit within attribute.
      let p = has_attribute rows types bit in
      let one : is_one_of bits bit ≡ true = ap (λ (bs : List ℕ). is_one_of bs bit) e ∙ attribute_bit attributes (length rows) bit (omega (arith, within, h.count)) attribute in
      let size : n ≡ 1 + (length rows + (n - length rows - 1)) = omega arith in
      h.each bit one
      ∙ ap (λ (m : ℕ). filter p (range_with_len 0 m)) size
      ∙ filter_parts p 0 1 (length rows + (n - length rows - 1))
      ∙ ap (λ (xs : List ℕ). xs ++ filter p (range_with_len 1 (length rows + (n - length rows - 1)))) (filter_none p 0 1 (λ c low high. none_outside rows types bit c have (λ w. omega (arith, w.0, high))))
      ∙ filter_parts p 1 (length rows) (n - length rows - 1)
      ∙ ap (λ (xs : List ℕ). filter p (range_with_len 1 (length rows)) ++ xs) (filter_none p (1 + length rows) (n - length rows - 1) (λ c low high. none_outside rows types bit c have (λ w. omega (arith, w.1, low))))
      ∙ append-nil (filter p (range_with_len 1 (length rows)));
}

-- what a slice of a whole list became is the list
pub whole : (lists next : List (List ℕ)) (n : ℕ) → length lists ≡ n → length next ≡ n → next ≡ take n (next ++ drop (length next) lists)
whole lists next n e f = rw (← f) (sym (take-append-le (length next) next (drop (length next) lists) (omega arith) ∙ take_all (length next) next (omega arith)))
