-- The bits of nodes that rise, node by node.
use Rattle.std.proofs.Common.{◌≡◌, ℕ, zero, suc, ◌+◌, ◌%◌, ◌<◌, ◌≤◌, List, [], ◌∷◌, ◌++◌, take, slice_get, Some, sym, ap, subst, ◌∙◌, arith}
use Rattle.std.specs.List.{All, Contains}
use Rattle.std.proofs.lemmas.List.{take_more, flat_map_more}
use Rattle.std.proofs.lemmas.List.Elements.{All-append, All-contains, All-contains_itself, All-nil, All-cons, All-weaker, Contains-append_left, Contains-append_right}
use Rattle.std.proofs.lemmas.Option.{get_or_from_slice_get, slice_get_within}
use Rattle.pol_bitmap.specs.declared.node.Node.{Node}
use Rattle.pol_bitmap.specs.Nodes.{IsRisingFrom, IsLeastFrom, node_bits, bits_of}
use Rattle.pol_bitmap.proofs.BitLists.{RisesFrom, bits_rise, node_bits_within}

all_left : (P : ℕ → Type 0) (xs ys : List ℕ) → All P (xs ++ ys) → All P xs
all_left P xs ys h = All-weaker (Contains xs) P (λ x m. All-contains P (xs ++ ys) x h (Contains-append_left xs ys x m)) xs (All-contains_itself xs)

all_right : (P : ℕ → Type 0) (xs ys : List ℕ) → All P (xs ++ ys) → All P ys
all_right P xs ys h = All-weaker (Contains ys) P (λ x m. All-contains P (xs ++ ys) x h (Contains-append_right xs ys x m)) ys (All-contains_itself ys)

rises_all : (least : ℕ) (xs : List ℕ) → RisesFrom least xs → All (λ x. least ≤ x) xs
rises_all least [] h = All-nil (λ (x : ℕ). least ≤ x)
rises_all least (x ∷ xs) h = All-cons (λ (x : ℕ). least ≤ x) x xs h.0 (All-weaker (λ (y : ℕ). x + 1 ≤ y) (λ (y : ℕ). least ≤ y) (λ y le. let first : least ≤ x = h.0 in omega arith) xs (rises_all (x + 1) xs h.1))

-- the least bit of the first node that has one from there on
pub least_at : (base bit found : ℕ) (ns : List Node) (i : ℕ) (n : Node) → IsRisingFrom base ns → slice_get ns i ≡ Some n → All (λ c. c < bit) (bits_of (take i ns)) → IsLeastFrom (node_bits n) bit found → IsLeastFrom (bits_of ns) bit found
least_at base bit found [] i n rising e none h = absurd cc
least_at base bit found (m ∷ ms) zero n rising e none h =
    let same : n ≡ m = cc in
    let one : IsLeastFrom (node_bits m) bit found = subst (λ (x : Node). IsLeastFrom (node_bits x) bit found) same h in
    let within = All-contains (λ b. (m.start ≤ b) × (b < m.start + 64)) (node_bits m) found (node_bits_within m) one.there in
    record {
      above = one.above;
      there = Contains-append_left (node_bits m) (bits_of ms) found one.there;
      least = All-append (λ c. bit ≤ c → found ≤ c) (node_bits m) (bits_of ms) one.least
          (All-weaker (λ (c : ℕ). m.start + 64 ≤ c) (λ c. bit ≤ c → found ≤ c) (λ c le from. let lt : found < m.start + 64 = within.1 in omega arith) (bits_of ms) (rises_all (m.start + 64) (bits_of ms) (bits_rise (m.start + 64) ms rising.3)));
    }
least_at base bit found (m ∷ ms) (suc i) n rising e none h =
    let rest = least_at (m.start + 64) bit found ms i n rising.3 e (all_right (λ c. c < bit) (node_bits m) (bits_of (take i ms)) none) h in
    record {
      above = rest.above;
      there = Contains-append_right (node_bits m) (bits_of ms) found rest.there;
      least = All-append (λ c. bit ≤ c → found ≤ c) (node_bits m) (bits_of ms)
          (All-weaker (λ (c : ℕ). c < bit) (λ c. bit ≤ c → found ≤ c) (λ c lt from. omega arith) (node_bits m) (all_left (λ c. c < bit) (node_bits m) (bits_of (take i ms)) none)) rest.least;
    }

-- the bits of one more node
pub bits_more : (ns : List Node) (i : ℕ) (n : Node) → slice_get ns i ≡ Some n → bits_of (take (i + 1) ns) ≡ bits_of (take i ns) ++ node_bits n
bits_more ns i n e =
    let one = take_more ns i n (slice_get_within ns i n e) in
    let here = get_or_from_slice_get ns i n n e in
    ap bits_of (one ∙ ap (λ (m : Node). take i ns ++ m ∷ []) here) ∙ sym (flat_map_more node_bits [] (take i ns) n)

-- one more node has no bit from there on
pub none_more : (bit : ℕ) (ns : List Node) (i : ℕ) (n : Node) → slice_get ns i ≡ Some n → All (λ c. c < bit) (bits_of (take i ns)) → All (λ c. c < bit) (node_bits n) → All (λ c. c < bit) (bits_of (take (i + 1) ns))
none_more bit ns i n e none h = rw (bits_more ns i n e) (All-append (λ c. c < bit) (bits_of (take i ns)) (node_bits n) none h)

-- each start is a multiple of 64
pub rising_start : (base : ℕ) (ns : List Node) (i : ℕ) (n : Node) → IsRisingFrom base ns → slice_get ns i ≡ Some n → n.start % 64 ≡ 0
rising_start base [] i n h e = absurd cc
rising_start base (m ∷ ms) zero n h e = let same : m ≡ n = cc in subst (λ (x : Node). x.start % 64 ≡ 0) same h.1
rising_start base (m ∷ ms) (suc i) n h e = rising_start (m.start + 64) ms i n h.3 e
