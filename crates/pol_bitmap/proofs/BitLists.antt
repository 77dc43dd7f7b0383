-- The bits of nodes as a list: they are those that the nodes have, they rise, and their number is that of the ones of the maps.
use Rattle.std.proofs.Common.{◌≡◌, ℕ, zero, suc, ◌+◌, ◌-◌, ◌/◌, ◌%◌, ◌^◌, ◌<◌, ◌≤◌, Bool, true, false, List, [], ◌∷◌, ◌++◌, length, inl, inr, refl, sym, ap, ◌∙◌, ◌↔◌, add-one, add-zero, arith}
use Rattle.std.specs.Prelude.{◌==◌, slice_index}
use Rattle.std.specs.List.{All, AllByRecursion, Contains, filter, range_with_len}
use Rattle.std.specs.List.Sorted.{IsStrictlyIncreasing}
use Rattle.std.specs.Int.{bit_at}
use Rattle.std.specs.Int.Count.{ones, ones_step, ones-ones}
use Rattle.std.specs.Prelude.{count_ones, IsTrue}
use Rattle.std.proofs.lemmas.Nat.{shr_below}
use Rattle.std.proofs.lemmas.Nat.Bits.{bit_at_lowest, bit_at-suc}
use Rattle.std.proofs.lemmas.Bool.{cond_both, and_from, and_parts, or_cases, or_left, or_right, lt-ltb, le-leb, eqb-true, eqb-false, leb-true, ltb-true, cases_Bool}
use Rattle.std.proofs.lemmas.List.Elements.{All-nil, All-head, All-tail, All-append, All-contains, All-contains_itself, All-filter, All-weaker, Contains-append_left, Contains-append_right, Contains-append_cases, filter_passes}
use Rattle.pol_bitmap.specs.declared.node.Node.{Node}
use Rattle.pol_bitmap.specs.Nodes.{IsRisingFrom, node_bits, bits_of, node_has, has_bit}
use Rattle.pol_bitmap.proofs.Elements.{contains_nothing, contains_one, contains_first, keeps, range_holds, contains_range}

-- ---- a bit of the list is a bit that a node has

abbrev pub map_has : Node → ℕ → Bool
map_has n b = bit_at n.map (b - n.start) == 1

pub node_bits_within : (n : Node) → All (λ b. (n.start ≤ b) × (b < n.start + 64)) (node_bits n)
unfolding node_bits
node_bits_within n = All-filter (map_has n) (λ b. (n.start ≤ b) × (b < n.start + 64)) (range_with_len n.start 64) (range_holds n.start 64)

pub node_has-from_bits : (n : Node) (b : ℕ) → Contains (node_bits n) b → node_has b n ≡ true
unfolding node_bits
node_has-from_bits n b h =
    let within = All-contains (λ b. (n.start ≤ b) × (b < n.start + 64)) (node_bits n) b (node_bits_within n) h in
    let passes = All-contains (λ b. map_has n b ≡ true) (node_bits n) b (filter_passes (map_has n) (range_with_len n.start 64)) h in
    and_from _ _ (and_from _ _ (le-leb n.start b within.0) (lt-ltb b (n.start + 64) within.1)) passes

pub bits-from_node_has : (n : Node) (b : ℕ) → node_has b n ≡ true → Contains (node_bits n) b
unfolding node_bits
bits-from_node_has n b e =
    let p = and_parts _ _ e in
    let q = and_parts _ _ p.0 in
    keeps (map_has n) (range_with_len n.start 64) b (contains_range n.start 64 b (leb-true n.start b q.0) (ltb-true b (n.start + 64) q.1)) p.1

pub has_bit-from_bits : (ns : List Node) (b : ℕ) → Contains (bits_of ns) b → has_bit ns b ≡ true
has_bit-from_bits [] b h = absurd (contains_nothing b h)
has_bit-from_bits (n ∷ ns) b h = elim (Contains-append_cases (node_bits n) (bits_of ns) b h) [
  | inl here ↦ or_left _ _ (node_has-from_bits n b here)
  | inr there ↦ or_right _ _ (has_bit-from_bits ns b there)
]

pub bits-from_has_bit : (ns : List Node) (b : ℕ) → has_bit ns b ≡ true → Contains (bits_of ns) b
bits-from_has_bit [] b e = absurd cc
bits-from_has_bit (n ∷ ns) b e = elim (or_cases _ _ e) [
  | inl here ↦ Contains-append_left (node_bits n) (bits_of ns) b (bits-from_node_has n b here)
  | inr there ↦ Contains-append_right (node_bits n) (bits_of ns) b (bits-from_has_bit ns b there)
]

-- The list of the bits has exactly the bits that a test of the nodes finds.
pub contains_bits : (ns : List Node) (b : ℕ) → Contains (bits_of ns) b ↔ (has_bit ns b ≡ true)
contains_bits ns b = (has_bit-from_bits ns b, bits-from_has_bit ns b)

-- what tells whether the nodes have a bit tells whether the list does
pub tells_bit : (r : Bool) (ns : List Node) (b : ℕ) → r ≡ has_bit ns b → IsTrue r ↔ Contains (bits_of ns) b
tells_bit r ns b e = (λ t. bits-from_has_bit ns b (sym e ∙ t), λ m. e ∙ has_bit-from_bits ns b m)

-- what holds of each bit that a node has holds of its list
pub all_node_bits : (P : ℕ → Type 0) (n : Node) → ((b : ℕ) → node_has b n ≡ true → P b) → All P (node_bits n)
all_node_bits P n each = All-weaker (Contains (node_bits n)) P (λ b h. each b (node_has-from_bits n b h)) (node_bits n) (All-contains_itself (node_bits n))

-- ---- the bits rise

-- numbers that strictly rise, the first of them at or above a number
abbrev pub RisesFrom : ℕ → List ℕ → Type 0
RisesFrom least [] = Unit {0}
RisesFrom least (x ∷ xs) = (least ≤ x) × RisesFrom (x + 1) xs

pub rises_lower : (low high : ℕ) (xs : List ℕ) → low ≤ high → RisesFrom high xs → RisesFrom low xs
rises_lower low high [] le h = tt
rises_lower low high (x ∷ xs) le h = (omega arith, h.1)

rises_range : (p : ℕ → Bool) (a n : ℕ) → RisesFrom a (filter p (range_with_len a n))
rises_range p a zero = tt
rises_range p a (suc n) =
    let rest = rises_range p (a + 1) n in
    cond_both (p a) (a ∷ filter p (range_with_len (a + 1) n)) (filter p (range_with_len (a + 1) n)) (RisesFrom a) (λ t. (omega arith, rest)) (λ t. rises_lower a (a + 1) (filter p (range_with_len (a + 1) n)) (omega arith) rest)

pub rises-append : (least middle : ℕ) (xs ys : List ℕ) → least ≤ middle → RisesFrom least xs → All (λ x. x < middle) xs → RisesFrom middle ys → RisesFrom least (xs ++ ys)
rises-append least middle [] ys le h below k = rises_lower least middle ys le k
rises-append least middle (x ∷ xs) ys le h below k =
    let first : x < middle = All-head (λ (x : ℕ). x < middle) x xs below in
    (h.0, rises-append (x + 1) middle xs ys (omega arith) h.1 (All-tail (λ (x : ℕ). x < middle) x xs below) k)

pub rises_increasing : (least : ℕ) (xs : List ℕ) → RisesFrom least xs → IsStrictlyIncreasing xs
rises_increasing least [] h = λ k lt. absurd (omega arith)
rises_increasing least (x ∷ []) h = λ k lt. absurd (omega arith)
rises_increasing least (x ∷ y ∷ ys) h = λ k lt. at (rises_increasing (x + 1) (y ∷ ys) h.1) k lt
  where
    at : IsStrictlyIncreasing (y ∷ ys) → (k : ℕ) → k + 1 < length (x ∷ y ∷ ys) → slice_index (x ∷ y ∷ ys) k < slice_index (x ∷ y ∷ ys) (k + 1)
    at rest zero lt = omega (arith, h.1.0)
    at rest (suc k) lt = let e : suc k + 1 ≡ suc (k + 1) = omega arith in rw e (rest k (omega arith))

pub node_bits_rise : (n : Node) → RisesFrom n.start (node_bits n)
unfolding node_bits
node_bits_rise n = rises_range (map_has n) n.start 64

pub bits_rise : (base : ℕ) (ns : List Node) → IsRisingFrom base ns → RisesFrom base (bits_of ns)
bits_rise base [] h = tt
bits_rise base (n ∷ ns) h =
    rises-append base (n.start + 64) (node_bits n) (bits_of ns) (omega arith) (rises_lower base n.start (node_bits n) h.0 (node_bits_rise n))
    (All-weaker (λ b. (n.start ≤ b) × (b < n.start + 64)) (λ b. b < n.start + 64) (λ b w. w.1) (node_bits n) (node_bits_within n))
    (bits_rise (n.start + 64) ns h.3)

-- The bits of nodes that rise strictly rise.
pub bits_increasing : (base : ℕ) (ns : List Node) → IsRisingFrom base ns → IsStrictlyIncreasing (bits_of ns)
bits_increasing base ns h = rises_increasing base (bits_of ns) (bits_rise base ns h)

-- two lists that rise and have the same elements are one
pub rises_same : (a b : ℕ) (xs ys : List ℕ) → RisesFrom a xs → RisesFrom b ys → ((x : ℕ) → Contains xs x ↔ Contains ys x) → xs ≡ ys
rises_same a b [] [] h k same = refl
rises_same a b [] (y ∷ ys) h k same = absurd (contains_nothing y ((same y).1 (contains_first y ys)))
rises_same a b (x ∷ xs) [] h k same = absurd (contains_nothing x ((same x).0 (contains_first x xs)))
rises_same a b (x ∷ xs) (y ∷ ys) h k same =
    let left : y ≤ x = least_first y ys x k.1 ((same x).0 (contains_first x xs)) in
    let right : x ≤ y = least_first x xs y h.1 ((same y).1 (contains_first y ys)) in
    let heads : x ≡ y = omega arith in
    let tails : xs ≡ ys = rises_same (x + 1) (y + 1) xs ys h.1 k.1 (λ c. (λ m. behind y ys c (above x xs c h.1 m) heads ((same c).0 (Contains-append_right (x ∷ []) xs c m)), λ m. behind x xs c (above y ys c k.1 m) (sym heads) ((same c).1 (Contains-append_right (y ∷ []) ys c m)))) in
    ap (λ (z : ℕ). z ∷ xs) heads ∙ ap (λ (zs : List ℕ). y ∷ zs) tails
  where
    above : (x : ℕ) (xs : List ℕ) (c : ℕ) → RisesFrom (x + 1) xs → Contains xs c → x < c
    above x [] c h m = absurd (contains_nothing c m)
    above x (z ∷ zs) c h m = elim (Contains-append_cases (z ∷ []) zs c m) [
      | inl one ↦ let e : z ≡ c = contains_one c z one in omega arith
      | inr rest ↦ let lt : z < c = above z zs c h.1 rest in omega arith
    ]

    least_first : (y : ℕ) (ys : List ℕ) (x : ℕ) → RisesFrom (y + 1) ys → Contains (y ∷ ys) x → y ≤ x
    least_first y ys x h m = elim (Contains-append_cases (y ∷ []) ys x m) [
      | inl one ↦ let e : y ≡ x = contains_one x y one in omega arith
      | inr rest ↦ let lt : y < x = above y ys x h rest in omega arith
    ]

    behind : (y : ℕ) (ys : List ℕ) (c : ℕ) {x : ℕ} → x < c → x ≡ y → Contains (y ∷ ys) c → Contains ys c
    behind y ys c lt e m = elim (Contains-append_cases (y ∷ []) ys c m) [
      | inl one ↦ let same : y ≡ c = contains_one c y one in absurd (omega arith)
      | inr rest ↦ rest
    ]

-- ---- the bits fit a u32

-- A start that fits and is a multiple of 64 leaves room for the node's bits.
pub bits_fit : (base : ℕ) (ns : List Node) → IsRisingFrom base ns → AllByRecursion (λ n. n.start < 2 ^ 32) ns → All (λ b. b < 2 ^ 32) (bits_of ns)
bits_fit base [] h fits = All-nil (λ (b : ℕ). b < 2 ^ 32)
bits_fit base (n ∷ ns) h fits =
    All-append (λ (b : ℕ). b < 2 ^ 32) (node_bits n) (bits_of ns)
    (All-weaker (λ b. (n.start ≤ b) × (b < n.start + 64)) (λ b. b < 2 ^ 32) (λ b w. whole_fits n.start b h.1 fits.0 w.1) (node_bits n) (node_bits_within n))
    (bits_fit (n.start + 64) ns h.3 fits.1)
  where
    whole_fits : (start b : ℕ) → start % 64 ≡ 0 → start < 2 ^ 32 → b < start + 64 → b < 2 ^ 32
    whole_fits start b whole fits lt = omega arith

-- ---- how many bits there are

-- A test that passes where a number has ones passes as often as it has them.
pub count_ones_of : (p : ℕ → Bool) (a n x : ℕ) → x < 2 ^ n → ((i : ℕ) → p (a + i) ≡ (bit_at x i == 1)) → length (filter p (range_with_len a n)) ≡ ones x
count_ones_of p a zero x lt each = let none : x ≡ 0 = omega arith in sym (ap ones none ∙ ones-ones 0)
count_ones_of p a (suc n) x lt each =
    let rest = count_ones_of p (a + 1) n (x / 2) (shr_below x n 1 (rw add-one lt)) (λ i. each_next i) in
    let step = ones_step x in
    let first : p a ≡ (bit_at x 0 == 1) = ap p (sym (add-zero a)) ∙ each 0 in
    elim (cases_Bool (p a)) [
      | inl passes ↦ let odd : x % 2 ≡ 1 = sym (bit_at_lowest x) ∙ eqb-true _ _ (sym first ∙ passes) in
          rw passes (omega arith)
      | inr fails ↦ let even : x % 2 ≡ 0 = lowest_not x (sym first ∙ fails) in
          rw fails (omega arith)
    ]
  where
    each_next : (i : ℕ) → p (a + 1 + i) ≡ (bit_at (x / 2) i == 1)
    each_next i = let e : a + 1 + i ≡ a + suc i = omega arith in rw e (each (suc i) ∙ ap (λ (b : ℕ). b == 1) (bit_at-suc x i))

    lowest_not : (x : ℕ) → (bit_at x 0 == 1) ≡ false → x % 2 ≡ 0
    lowest_not x e = let ne : x % 2 ≡ 1 → ⊥ = λ o. eqb-false _ _ e (bit_at_lowest x ∙ o) in omega arith

-- A node has as many bits as its map has ones.
pub length-node_bits : (n : Node) → n.map < 2 ^ 64 → length (node_bits n) ≡ count_ones n.map
unfolding node_bits
length-node_bits n lt = count_ones_of (map_has n) n.start 64 n.map lt (λ i. let e : n.start + i - n.start ≡ i = omega arith in rw e refl)
