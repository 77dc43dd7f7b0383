-- Strictly rising lists, and the bits of a set by their index.
use Rattle.std.proofs.Common.{◌≡◌, ℕ, zero, suc, ◌+◌, ◌-◌, ◌/◌, ◌%◌, ◌^◌, ◌<◌, ◌≤◌, List, [], ◌∷◌, length, take, drop, get_or, refl, ap, sym, subst, ◌∙◌, arith, Option, Some, None, slice_get, IfSome, IfNone, inl, inr}
use Rattle.std.specs.Prelude.{slice_index}
use Rattle.std.specs.Int.{trailing_zeros, w64}
use Rattle.std.specs.List.{All, AllByRecursion, Contains}
use Rattle.std.specs.List.Sorted.{IsStrictlyIncreasing}
use Rattle.std.specs.Iterator.{SkipsThenYields, YieldsFirst}
use Rattle.std.specs.Option.{option_map}
use Rattle.std.proofs.lemmas.Iterator.Consumers.{nth_from_yields_List, YieldsList-from_first}
use Rattle.std.proofs.lemmas.Bool.{cases_lt}
use Rattle.std.proofs.lemmas.List.Elements.{All-append, All-contains, All-nil, All-weaker, Contains-get_or}
use Rattle.std.proofs.lemmas.Option.{slice_get_within, get_or_from_slice_get, slice_get-get_or, slice_get_past}
use Rattle.pol_bitmap.specs.declared.Node.{Node}
use Rattle.pol_bitmap.specs.Bitmap.{NodeFits}
use Rattle.pol_bitmap.specs.Nodes.{bits_of, node_bits, IsLeastFrom, IsRisingFrom}
use Rattle.pol_bitmap.specs.Sets.{IsSet}
use Rattle.pol_bitmap.proofs.BitLists.{bits_increasing, node_bits_within}
use Rattle.pol_bitmap.proofs.NodeBits.{least_at, rising_start}
use Rattle.pol_bitmap.proofs.Shifts.{least_shifted, lowest_set}
use Rattle.pol_bitmap.proofs.SetLaws.{set_bits_fit}

rises_by : (xs : List ℕ) → IsStrictlyIncreasing xs → (i d : ℕ) → i + d < length xs → slice_index xs i + d ≤ slice_index xs (i + d)
rises_by xs up i zero lt =
    let same : i + 0 ≡ i = omega arith in
    rw same (omega arith)
rises_by xs up i (suc d) lt =
    let step : i + suc d ≡ i + d + 1 = omega arith in
    let rest = rises_by xs up i d (omega (arith, lt)) in
    let one = up (i + d) (omega (arith, lt)) in
    rw step (omega (arith, rest, one))

-- a later element is greater by at least as much as it is later
pub rises : (xs : List ℕ) → IsStrictlyIncreasing xs → (i j : ℕ) → i ≤ j → j < length xs → slice_index xs i + (j - i) ≤ slice_index xs j
rises xs up i j le lt =
    let there : i + (j - i) ≡ j = omega arith in
    subst (λ (k : ℕ). slice_index xs i + (j - i) ≤ slice_index xs k) there (rises_by xs up i (j - i) (omega arith))

-- Numbers below a limit are no more than that.
pub few : (xs : List ℕ) (limit : ℕ) → IsStrictlyIncreasing xs → All (λ x. x < limit) xs → length xs ≤ limit
few xs limit up all = by (length xs) refl
  where
    by : (n : ℕ) → length xs ≡ n → n ≤ limit
    by zero e = omega arith
    by (suc n) e =
        let lt : n < length xs = omega (arith, e) in
        let most = rises xs up 0 n (omega arith) lt in
        let below : slice_index xs n < limit = All-contains (λ (x : ℕ). x < limit) xs (slice_index xs n) all (Contains-get_or xs n 0 lt) in
        omega (arith, most, below)

-- what a look for the least number from a place on gives
abbrev pub Found : List ℕ → ℕ → Option ℕ → Type 0
Found xs place found = IfSome found (IsLeastFrom xs place) × IfNone found (All (λ c. c < place) xs)

-- The least number above the one of an index is the next one.
pub next_is : (xs : List ℕ) → IsStrictlyIncreasing xs → (i a : ℕ) → slice_get xs i ≡ Some a → (found : Option ℕ) → Found xs (a + 1) found → slice_get xs (i + 1) ≡ found
next_is xs up i a is None f = elim (cases_lt (i + 1) (length xs)) [
  | inl lt ↦
      let here = get_or_from_slice_get xs i a 0 is in
      let below : slice_index xs (i + 1) < a + 1 = All-contains (λ (c : ℕ). c < a + 1) xs _ f.1 (Contains-get_or xs (i + 1) 0 lt) in
      absurd (omega (arith, up i lt, below, here))
  | inr le ↦ slice_get_past xs (i + 1) le
]
next_is xs up i a is (Some b) f = by f.0.there
  where
    here : slice_index xs i ≡ a
    here = get_or_from_slice_get xs i a 0 is

    by : Contains xs b → slice_get xs (i + 1) ≡ Some b
    by (k, lt, at) =
        let there : slice_index xs k ≡ b = get_or_from_slice_get xs k (get_or xs k b) 0 (slice_get-get_or xs k b lt) ∙ at in
        elim (cases_lt i k) [
          | inl later ↦
              let within : i + 1 < length xs = omega (arith, later, lt) in
              let least : a + 1 ≤ slice_index xs (i + 1) → b ≤ slice_index xs (i + 1) = All-contains (λ (c : ℕ). a + 1 ≤ c → b ≤ c) xs _ f.0.least (Contains-get_or xs (i + 1) 0 within) in
              let up_one = up i within in
              let low = least (omega (arith, up_one, here)) in
              let high = rises xs up (i + 1) k (omega (arith, later)) lt in
              let same : slice_index xs (i + 1) ≡ b = omega (arith, low, high, there) in
              slice_get-get_or xs (i + 1) 0 within ∙ ap (λ (x : ℕ). Some x) same
          | inr earlier ↦
              let high = rises xs up k i earlier (slice_get_within xs i a is) in
              absurd (omega (arith, high, there, here, f.0.above))
        ]

-- ---- sets

pub bit_after_is : (ns : List Node) → IsSet ns → (found : Option ℕ) (bit from i : ℕ) → from ≡ bit + 1 → Found (bits_of ns) from found → slice_get (bits_of ns) i ≡ Some bit → slice_get (bits_of ns) (i + 1) ≡ found
bit_after_is ns set found bit from i e f is = next_is (bits_of ns) (bits_increasing 0 ns set.0) i bit is found (subst (λ (p : ℕ). Found (bits_of ns) p found) e f)

-- No bit comes after the greatest that a bit can be.
pub no_bit_after : (ns : List Node) → IsSet ns → (bit i : ℕ) → 2 ^ 32 ≤ bit + 1 → slice_get (bits_of ns) i ≡ Some bit → slice_get (bits_of ns) (i + 1) ≡ None
no_bit_after ns set bit i high is = elim (cases_lt (i + 1) (length (bits_of ns))) [
  | inl lt ↦
      let here = get_or_from_slice_get (bits_of ns) i bit 0 is in
      let below : slice_index (bits_of ns) (i + 1) < 2 ^ 32 = All-contains (λ (c : ℕ). c < 2 ^ 32) (bits_of ns) _ (set_bits_fit ns set) (Contains-get_or (bits_of ns) (i + 1) 0 lt) in
      absurd (omega (arith, bits_increasing 0 ns set.0 i lt, below, here, high))
  | inr le ↦ slice_get_past (bits_of ns) (i + 1) le
]

-- ---- the node that a bit stands in

start_above : (base : ℕ) (ns : List Node) (i : ℕ) (n : Node) → IsRisingFrom base ns → slice_get ns i ≡ Some n → base ≤ n.start
start_above base [] i n h e = absurd cc
start_above base (m ∷ ms) zero n h e = let same : m ≡ n = cc in subst (λ (x : Node). base ≤ x.start) same h.0
start_above base (m ∷ ms) (suc i) n h e = let rest = start_above (m.start + 64) ms i n h.3 e in omega (arith, rest, h.0)

-- the nodes before one have lower bits
lower_before : (base bit : ℕ) (ns : List Node) (i : ℕ) (n : Node) → IsRisingFrom base ns → slice_get ns i ≡ Some n → n.start ≤ bit → All (λ c. c < bit) (bits_of (take i ns))
lower_before base bit ns zero n h e le = All-nil (λ (c : ℕ). c < bit)
lower_before base bit [] (suc i) n h e le = absurd cc
lower_before base bit (m ∷ ms) (suc i) n h e le =
    let above = start_above (m.start + 64) ms i n h.3 e in
    All-append (λ (c : ℕ). c < bit) (node_bits m) (bits_of (take i ms))
    (All-weaker (λ b. (m.start ≤ b) × (b < m.start + 64)) (λ c. c < bit) (λ b w. let below : b < m.start + 64 = w.1 in omega (arith, below, above, le)) (node_bits m) (node_bits_within m))
    (lower_before (m.start + 64) bit ms i n h.3 e le)

node_fits : (ns : List Node) (i : ℕ) (n : Node) → AllByRecursion NodeFits ns → slice_get ns i ≡ Some n → NodeFits n
node_fits [] i n h e = absurd cc
node_fits (m ∷ ms) zero n h e = let same : m ≡ n = cc in subst NodeFits same h.0
node_fits (m ∷ ms) (suc i) n h e = node_fits ms i n h.1 e

-- A bit's node, and what its map has from the bit on.
pub record StandsIn (ns : List Node) (bit i : ℕ) (n : Node) : Type 0 where
  pub there : slice_get ns i ≡ Some n
  pub start : n.start ≡ bit - bit % 64
  pub left : 0 < n.map / 2 ^ (bit % 64)

-- The least bit from there on is that of the lowest one that is left, and fits.
pub close_fits : (ns : List Node) (bit i : ℕ) (n : Node) → IsSet ns → StandsIn ns bit i n → bit + trailing_zeros w64 (n.map / 2 ^ (bit % 64)) < 2 ^ 32
close_fits ns bit i n set h =
    let fits = node_fits ns i n set.1 h.there in
    let whole = rising_start 0 ns i n set.0 h.there in
    let low = (lowest_set n.map (bit % 64) fits.1 h.left).within in
    omega (arith, fits.0, whole, low, h.start)

pub close_is : (ns : List Node) (bit i : ℕ) (n : Node) → IsSet ns → StandsIn ns bit i n → IsLeastFrom (bits_of ns) bit (bit + trailing_zeros w64 (n.map / 2 ^ (bit % 64)))
close_is ns bit i n set h =
    let fits = node_fits ns i n set.1 h.there in
    let skipped : bit - n.start ≡ bit % 64 = omega (arith, h.start) in
    let at : n.start + bit % 64 ≡ bit = omega (arith, h.start) in
    let below : n.start ≤ bit = omega (arith, h.start) in
    let least = least_shifted n bit fits.1 (rw skipped h.left) in
    let found = subst (λ (k : ℕ). IsLeastFrom (node_bits n) bit (n.start + k + trailing_zeros w64 (n.map / 2 ^ k))) skipped least in
    let here = subst (λ (k : ℕ). IsLeastFrom (node_bits n) bit (k + trailing_zeros w64 (n.map / 2 ^ (bit % 64)))) at found in
    least_at 0 bit _ ns i n set.0 h.there (lower_before 0 bit ns i n set.0 h.there below) here

-- A set has no more bits than there are numbers of 32 bits.
pub bits_few : (ns : List Node) → IsSet ns → length (bits_of ns) ≤ 2 ^ 32
bits_few ns set = few (bits_of ns) (2 ^ 32) (bits_increasing 0 ns set.0) (set_bits_fit ns set)

-- The n-th bit that comes is the one of index n.
pub nth_is : (bits after : List ℕ) (n : ℕ) (r : Option ℕ) → SkipsThenYields (YieldsFirst (λ (rest : List ℕ). rest)) bits n r after → r ≡ slice_get bits n
nth_is bits after n r ran = some_same r ∙ nth_from_yields_List r after n ran (YieldsList-from_first (λ (x : ℕ). x) (λ (rest : List ℕ). rest) bits refl)
  where
    some_same : (o : Option ℕ) → o ≡ option_map (λ (x : ℕ). x) o
    some_same None = refl
    some_same (Some x) = refl

pub nth_there : (ns : List Node) (bits after : List ℕ) (n : ℕ) → bits ≡ bits_of ns → n < length (bits_of ns) → SkipsThenYields (YieldsFirst (λ (rest : List ℕ). rest)) bits n None after → ⊥
nth_there ns bits after n is lt ran =
    let none = nth_is bits after n None ran ∙ ap (λ (xs : List ℕ). slice_get xs n) is in
    let some = slice_get-get_or (bits_of ns) n 0 lt in
    absurd cc

-- ---- the bits from one of them on

-- Two that go through the bits side by side have passed so many, and not yet one.
pub record BothLeft (bits : List ℕ) (bit passed : ℕ) (left ahead : List ℕ) : Type 0 where
  pub left_is : left ≡ drop passed bits
  pub ahead_is : ahead ≡ drop passed bits
  pub before : (i : ℕ) → slice_get bits i ≡ Some bit → passed ≤ i

at_drop : (xs : List ℕ) (n x : ℕ) (rest : List ℕ) → drop n xs ≡ x ∷ rest → (slice_get xs n ≡ Some x) × (rest ≡ drop (n + 1) xs)
at_drop [] zero x rest e = absurd cc
at_drop [] (suc n) x rest e = absurd cc
at_drop (y ∷ ys) zero x rest e = let same : y ≡ x = cc in let others : ys ≡ rest = cc in (ap (λ (z : ℕ). Some z) same, sym others)
at_drop (y ∷ ys) (suc n) x rest e = let h = at_drop ys n x rest e in let next : suc n + 1 ≡ suc (n + 1) = omega arith in (h.0, rw next h.1)

-- An index of a list that rises is that of no other element.
one_index : (xs : List ℕ) → IsStrictlyIncreasing xs → (i j x : ℕ) → slice_get xs i ≡ Some x → slice_get xs j ≡ Some x → i ≤ j → i ≡ j
one_index xs up i j x is_i is_j le =
    let lt = slice_get_within xs j x is_j in
    let high = rises xs up i j le lt in
    let a = get_or_from_slice_get xs i x 0 is_i in
    let b = get_or_from_slice_get xs j x 0 is_j in
    omega (arith, high, a, b, le)

-- where the bit is met, what is left is what comes from it on
pub bit_met : (ns : List Node) → IsSet ns → (bit passed found : ℕ) (left ahead rest : List ℕ) → BothLeft (bits_of ns) bit passed left ahead → ahead ≡ found ∷ rest → found ≡ bit
    → (i : ℕ) → slice_get (bits_of ns) i ≡ Some bit → left ≡ drop i (bits_of ns)
bit_met ns set bit passed found left ahead rest both next same i is =
    let here = at_drop (bits_of ns) passed found rest (sym both.ahead_is ∙ next) in
    let at : slice_get (bits_of ns) passed ≡ Some bit = here.0 ∙ ap (λ (x : ℕ). Some x) same in
    let e = one_index (bits_of ns) (bits_increasing 0 ns set.0) passed i bit at is (both.before i is) in
    both.left_is ∙ ap (λ (n : ℕ). drop n (bits_of ns)) e

-- where it is another bit, both go on
pub bit_passed : (ns : List Node) (bit passed found : ℕ) (left ahead rest : List ℕ) (given : Option ℕ) (others : List ℕ) → BothLeft (bits_of ns) bit passed left ahead → ahead ≡ found ∷ rest → (found ≡ bit → ⊥)
    → YieldsFirst (λ (bits : List ℕ). bits) left given others → BothLeft (bits_of ns) bit (passed + 1) others rest
bit_passed ns bit passed found left ahead rest None others both next other given =
    let no : [] ≡ found ∷ rest = sym given.0 ∙ both.left_is ∙ sym both.ahead_is ∙ next in
    absurd cc
bit_passed ns bit passed found left ahead rest (Some x) others both next other given =
    let here = at_drop (bits_of ns) passed found rest (sym both.ahead_is ∙ next) in
    record {
      left_is = (at_drop (bits_of ns) passed x others (sym both.left_is ∙ given)).1;
      ahead_is = here.1;
      before = λ i is. later i (both.before i is) (λ (e : i ≡ passed). other (let two : Some found ≡ Some bit = sym here.0 ∙ ap (slice_get (bits_of ns)) (sym e) ∙ is in cc));
    }
  where
    later : (i : ℕ) → passed ≤ i → (i ≡ passed → ⊥) → passed + 1 ≤ i
    later i le ne = omega (arith, le, ne)
