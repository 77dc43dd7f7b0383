-- Two sets gone through together: what was made of them, and what is left of both.
use Rattle.std.proofs.Common.{inl, inr, ◌⊎◌, ◌↔◌, zero, suc, min, max, ◌≡◌, ℕ, ◌+◌, ◌-◌, ◌%◌, ◌^◌, ◌<◌, ◌≤◌, Bool, true, false, ◌||◌, not, List, [], ◌∷◌, ◌++◌, length, refl, sym, ap, ◌∙◌, arith}
use Rattle.std.specs.Prelude.{bit_or, bit_and, ◌==◌, ◌&&◌, nat_le, nat_lt}
use Rattle.std.specs.Int.{bit_at, bit_not, trailing_zeros, w64}
use Rattle.std.specs.List.{AllByRecursion}
use Rattle.std.proofs.lemmas.List.{append-nil, nil_from_length}
use Rattle.std.proofs.lemmas.List.Folds.{list_any-append}
use Rattle.std.proofs.lemmas.Bool.{cases_Bool, cases_lt, and_parts, and_from, or_left, or_right, and_left, lt-leb, false≢true, ltb-true, leb-true, lt-ltb, le-leb, eqb-true}
use Rattle.std.proofs.lemmas.Nat.Bits.{bit_at_or, bit_at_and, bit_at_not, bit_at-lt, bit_at-zero, bit_at-trailing_zeros}
use Rattle.pol_cursor.proofs.BitPlaces.{or_nothing}
use Rattle.pol_bitmap.specs.declared.node.Node.{Node}
use Rattle.pol_bitmap.specs.Bitmap.{NodeFits}
use Rattle.pol_bitmap.specs.Nodes.{IsRisingFrom, node_has, has_bit}
use Rattle.pol_bitmap.specs.Sets.{IsSet, IsCut}

-- nodes that rise from a place, and end by another
abbrev pub IsRisingTo : ℕ → ℕ → List Node → Type 0
IsRisingTo least end [] = least ≤ end
IsRisingTo least end (n ∷ ns) = (least ≤ n.start) × (n.start % 64 ≡ 0) × (0 < n.map) × IsRisingTo (n.start + 64) end ns

-- each bit is there by what the test says of it in both
abbrev pub IsByBits : (Bool → Bool → Bool) → List Node → List Node → List Node → Type 0
IsByBits test a b c = (bit : ℕ) → has_bit c bit ≡ test (has_bit a bit) (has_bit b bit)

-- what was made by the test, and what is left of both
pub record Merging (test : Bool → Bool → Bool) (first second out a b : List Node) : Type 0 where
  pub end : ℕ
  pub made : IsRisingTo 0 end out
  pub fits : AllByRecursion NodeFits out
  pub left : IsSet a
  pub right : IsSet b
  pub left_above : IsRisingFrom end a
  pub right_above : IsRisingFrom end b
  pub bits : (bit : ℕ) → (has_bit out bit || test (has_bit a bit) (has_bit b bit)) ≡ test (has_bit first bit) (has_bit second bit)

-- nodes that rise from a place have no bit below it
pub rising_above : (base : ℕ) (ns : List Node) (bit : ℕ) → IsRisingFrom base ns → bit < base → has_bit ns bit ≡ false
rising_above base [] bit h lt = refl
rising_above base (n ∷ ns) bit h lt =
    let before : (nat_le n.start bit && nat_lt bit (n.start + 64)) ≡ false = and_left (nat_le n.start bit) (nat_lt bit (n.start + 64)) (lt-leb n.start bit (omega arith)) in
    rw (and_left (nat_le n.start bit && nat_lt bit (n.start + 64)) (bit_at n.map (bit - n.start) == 1) before) (rising_above (n.start + 64) ns bit h.3 (omega arith))

-- ---- one step

pub made-more : (least end : ℕ) (out : List Node) (n : Node) → IsRisingTo least end out → end ≤ n.start → n.start % 64 ≡ 0 → 0 < n.map → IsRisingTo least (n.start + 64) (out ++ n ∷ [])
made-more least end [] n h le m full = (omega arith, m, full, omega arith)
made-more least end (k ∷ ks) n h le m full = (h.0, h.1, h.2, made-more (k.start + 64) end ks n h.3 le m full)

pub fits-more : (out more : List Node) → AllByRecursion NodeFits out → AllByRecursion NodeFits more → AllByRecursion NodeFits (out ++ more)
fits-more [] more h k = k
fits-more (n ∷ ns) more h k = (h.0, fits-more ns more h.1 k)

made-later : (least end start : ℕ) (out : List Node) → IsRisingTo least end out → end ≤ start → IsRisingTo least start out
made-later least end start [] h le = omega arith
made-later least end start (n ∷ ns) h le = (h.0, h.1, h.2, made-later (n.start + 64) end start ns h.3 le)

-- nodes that rise from a place rise from a place before
pub later : (least base : ℕ) (ns : List Node) → IsRisingFrom base ns → least ≤ base → IsRisingFrom least ns
later least base [] h le = tt
later least base (n ∷ ns) h le = (omega arith, h.1, h.2, h.3)

or_regroup : (o p q : Bool) → ((o || (p || false)) || q) ≡ (o || (p || q))
or_regroup true p q = refl
or_regroup false p q = ap (λ (x : Bool). x || q) (or_nothing p)

-- Of the bits at one place, those of the nodes or those of the rests are not there.
apart : (test : Bool → Bool → Bool) (p q r s : Bool) → test false false ≡ false → ((p ≡ false) × (r ≡ false)) ⊎ ((q ≡ false) × (s ≡ false)) → test (p || q) (r || s) ≡ (test p r || test q s)
apart test p q r s none (inl h) = rw (h.0, h.1, none) refl
apart test p q r s none (inr h) = rw (h.0, h.1, none, or_nothing p, or_nothing r, or_nothing (test p r)) refl

pub node_above : (bit : ℕ) (n : Node) → n.start + 64 ≤ bit → node_has bit n ≡ false
node_above bit n le = elim (cases_Bool (node_has bit n)) [
  | inl has ↦ let lt = ltb-true bit (n.start + 64) (and_parts (nat_le n.start bit) _ (and_parts (nat_le n.start bit && nat_lt bit (n.start + 64)) _ has).0).1 in absurd (omega arith)
  | inr none ↦ none
]

places : (a b : List Node) (start left right : ℕ) (a' b' : List Node) → IsCut a start left a' → IsCut b start right b' → (bit : ℕ) →
    ((node_has bit (record { start = start; map = left }) ≡ false) × (node_has bit (record { start = start; map = right }) ≡ false)) ⊎ ((has_bit a' bit ≡ false) × (has_bit b' bit ≡ false))
places a b start left right a' b' p q bit = elim (cases_lt bit (start + 64)) [
  | inl lt ↦ inr (rising_above (start + 64) a' bit p.above.0 lt, rising_above (start + 64) b' bit q.above.0 lt)
  | inr le ↦ inl (node_above bit (record { start = start; map = left }) le, node_above bit (record { start = start; map = right }) le)
]

-- a bit of both, by the nodes and the rests
cut_bits : (test : Bool → Bool → Bool) → test false false ≡ false → (a b : List Node) (start left right : ℕ) (a' b' : List Node) → IsCut a start left a' → IsCut b start right b' → (bit : ℕ) →
    test (has_bit a bit) (has_bit b bit) ≡ (test (node_has bit (record { start = start; map = left })) (node_has bit (record { start = start; map = right })) || test (has_bit a' bit) (has_bit b' bit))
cut_bits test none a b start left right a' b' p q bit =
    ap (λ (x : Bool). test x (has_bit b bit)) (p.bits bit) ∙ ap (test (node_has bit (record { start = start; map = left }) || has_bit a' bit)) (q.bits bit)
    ∙ apart test _ _ _ _ none (places a b start left right a' b' p q bit)

-- a node that is not empty has a bit
pub some_bit : (n : Node) → 0 < n.map → n.map < 2 ^ 64 → (bit : ℕ) × (node_has bit n ≡ true)
some_bit n full fit =
    let low = bit_at-trailing_zeros w64 n.map full fit in
    let k = trailing_zeros w64 n.map in
    let within : k < 64 = low.0 in
    let back : n.start + k - n.start ≡ k = omega arith in
    let one : bit_at n.map (n.start + k - n.start) ≡ 1 = ap (bit_at n.map) back ∙ low.1 in
    (n.start + k, and_from _ _ (and_from _ _ (le-leb n.start (n.start + k) (omega arith)) (lt-ltb (n.start + k) (n.start + 64) (omega arith))) (ap (λ (v : ℕ). v == 1) one))

-- a map that has the bits by the test
abbrev pub IsMapBy : (Bool → Bool → Bool) → ℕ → ℕ → ℕ → Type 0
IsMapBy test left right map = (k : ℕ) → k < 64 → (bit_at map k == 1) ≡ test (bit_at left k == 1) (bit_at right k == 1)

guarded : (test : Bool → Bool → Bool) → test false false ≡ false → (g m p q : Bool) → (g ≡ true → m ≡ test p q) → (g && m) ≡ test (g && p) (g && q)
guarded test none true m p q h = h refl
guarded test none false m p q h = sym none

node_by : (test : Bool → Bool → Bool) → test false false ≡ false → (start left right map : ℕ) → IsMapBy test left right map → (bit : ℕ) →
    node_has bit (record { start = start; map = map }) ≡ test (node_has bit (record { start = start; map = left })) (node_has bit (record { start = start; map = right }))
node_by test none start left right map h bit =
    guarded test none (nat_le start bit && nat_lt bit (start + 64)) _ _ _ λ g.
    let p = and_parts (nat_le start bit) (nat_lt bit (start + 64)) g in
    let lt : bit < start + 64 = ltb-true bit (start + 64) p.1 in
    let le : start ≤ bit = leb-true start bit p.0 in
    h (bit - start) (omega arith)

-- the node of the bits is added
pub Merging-push : (test : Bool → Bool → Bool) → test false false ≡ false → (first second out a b : List Node) (start left right map : ℕ) (a' b' : List Node) → Merging test first second out a b
    → IsCut a start left a' → IsCut b start right b' → ((least : ℕ) → IsRisingFrom least a → IsRisingFrom least b → least ≤ start) → start % 64 ≡ 0 → NodeFits (record { start = start; map = map }) → 0 < map → IsMapBy test left right map
    → Merging test first second (out ++ record { start = start; map = map } ∷ []) a' b'
Merging-push test none first second out a b start left right map a' b' h p q above whole fit full by =
    let n : Node = record { start = start; map = map } in
    let least : h.end ≤ start = above h.end h.left_above h.right_above in
    record {
      end = start + 64;
      made = made-more 0 h.end out n h.made least whole full;
      fits = fits-more out (n ∷ []) h.fits (fit, tt);
      left = (later 0 (start + 64) a' p.above.0 (omega arith), p.above.1);
      right = (later 0 (start + 64) b' q.above.0 (omega arith), q.above.1);
      left_above = p.above.0;
      right_above = q.above.0;
      bits = λ bit.
          ap (λ (x : Bool). x || test (has_bit a' bit) (has_bit b' bit)) (list_any-append (node_has bit) out (n ∷ []))
          ∙ or_regroup (has_bit out bit) (node_has bit n) (test (has_bit a' bit) (has_bit b' bit))
          ∙ ap (λ (x : Bool). has_bit out bit || (x || test (has_bit a' bit) (has_bit b' bit))) (node_by test none start left right map by bit)
          ∙ ap (λ (x : Bool). has_bit out bit || x) (sym (cut_bits test none a b start left right a' b' p q bit))
          ∙ h.bits bit;
    }

and_never : (g m : Bool) → m ≡ false → (g && m) ≡ false
and_never true m e = e
and_never false m e = refl

pub no_bit : (start bit : ℕ) → node_has bit (record { start = start; map = 0 }) ≡ false
no_bit start bit = and_never (nat_le start bit && nat_lt bit (start + 64)) (bit_at 0 (bit - start) == 1) (ap (λ (v : ℕ). v == 1) (bit_at-zero (bit - start)))

-- no bit is there by the test
pub Merging-skip : (test : Bool → Bool → Bool) → test false false ≡ false → (first second out a b : List Node) (start left right : ℕ) (a' b' : List Node) → Merging test first second out a b
    → IsCut a start left a' → IsCut b start right b' → ((least : ℕ) → IsRisingFrom least a → IsRisingFrom least b → least ≤ start) → IsMapBy test left right 0
    → Merging test first second out a' b'
Merging-skip test none first second out a b start left right a' b' h p q above by =
    let least : h.end ≤ start = above h.end h.left_above h.right_above in
    record {
      end = start + 64;
      made = made-later 0 h.end (start + 64) out h.made (omega arith);
      fits = h.fits;
      left = (later 0 (start + 64) a' p.above.0 (omega arith), p.above.1);
      right = (later 0 (start + 64) b' q.above.0 (omega arith), q.above.1);
      left_above = p.above.0;
      right_above = q.above.0;
      bits = λ bit.
          ap (λ (x : Bool). has_bit out bit || (x || test (has_bit a' bit) (has_bit b' bit))) (sym (no_bit start bit) ∙ node_by test none start left right 0 by bit)
          ∙ ap (λ (x : Bool). has_bit out bit || x) (sym (cut_bits test none a b start left right a' b' p q bit))
          ∙ h.bits bit;
    }

-- a bit of both first nodes is one of the two sets
pub Merging-found : (test : Bool → Bool → Bool) → test false false ≡ false → (first second out a b : List Node) (start left right map : ℕ) (a' b' : List Node) → Merging test first second out a b
    → IsCut a start left a' → IsCut b start right b' → IsMapBy test left right map → 0 < map → map < 2 ^ 64
    → (bit : ℕ) × (test (has_bit first bit) (has_bit second bit) ≡ true)
Merging-found test none first second out a b start left right map a' b' h p q by full fit =
    let one = some_bit (record { start = start; map = map }) full fit in
    let there : test (node_has one.0 (record { start = start; map = left })) (node_has one.0 (record { start = start; map = right })) ≡ true = sym (node_by test none start left right map by one.0) ∙ one.1 in
    let here : test (has_bit a one.0) (has_bit b one.0) ≡ true = cut_bits test none a b start left right a' b' p q one.0 ∙ ap (λ (x : Bool). x || test (has_bit a' one.0) (has_bit b' one.0)) there in
    (one.0, sym (h.bits one.0) ∙ or_right (has_bit out one.0) (test (has_bit a one.0) (has_bit b one.0)) here)

-- ---- the end

pub made-end : (least end : ℕ) (out a : List Node) → IsRisingTo least end out → IsRisingFrom end a → IsRisingFrom least (out ++ a)
made-end least end [] a h r = later least end a r h
made-end least end (n ∷ ns) a h r = (h.0, h.1, h.2, made-end (n.start + 64) end ns a h.3 r)

-- What is left of both is no part of the result.
pub Merging-done : (test : Bool → Bool → Bool) (first second out a b : List Node) → Merging test first second out a b → ((bit : ℕ) → test (has_bit a bit) (has_bit b bit) ≡ false) → IsSet out × IsByBits test first second out
Merging-done test first second out a b h none =
    let rising : IsRisingFrom 0 (out ++ []) = made-end 0 h.end out [] h.made tt in
    ((rw append-nil at rising, h.fits), λ bit. sym (or_nothing (has_bit out bit)) ∙ ap (λ (x : Bool). has_bit out bit || x) (sym (none bit)) ∙ h.bits bit)

-- What is left of one is part of the result.
pub Merging-rest : (test : Bool → Bool → Bool) (first second out a b rest : List Node) → Merging test first second out a b → IsSet rest → ((base : ℕ) → IsRisingFrom base a → IsRisingFrom base b → IsRisingFrom base rest)
    → ((bit : ℕ) → has_bit rest bit ≡ test (has_bit a bit) (has_bit b bit)) → IsSet (out ++ rest) × IsByBits test first second (out ++ rest)
Merging-rest test first second out a b rest h is rising bits = (
  (made-end 0 h.end out rest h.made (rising h.end h.left_above h.right_above), fits-more out rest h.fits is.1),
  λ bit. list_any-append (node_has bit) out rest ∙ ap (λ (x : Bool). has_bit out bit || x) (bits bit) ∙ h.bits bit,
)

pub union-end : (first second out a b : List Node) → Merging ◌||◌ first second out a b → (a ≡ []) ⊎ (b ≡ []) → IsSet ((out ++ a) ++ b) × IsByBits ◌||◌ first second ((out ++ a) ++ b)
union-end first second out a b h none = elim none [
  | inl e ↦ rw (e, append-nil) (Merging-rest ◌||◌ first second out a b b h h.right (λ base p q. q) (λ bit. rw e refl))
  | inr e ↦ rw (e, append-nil) (Merging-rest ◌||◌ first second out a b a h h.left (λ base p q. p) (λ bit. rw e (sym (or_nothing (has_bit a bit)))))
]

and_always : (a : Bool) → (a && true) ≡ a
and_always true = refl
and_always false = refl

-- ---- the maps

-- what holds of all binary digits
pub by_digits : (P : ℕ → ℕ → Type 0) → P 0 0 → P 0 1 → P 1 0 → P 1 1 → (p q : ℕ) → p < 2 → q < 2 → P p q
by_digits P a b c d zero zero h k = a
by_digits P a b c d zero (suc zero) h k = b
by_digits P a b c d (suc zero) zero h k = c
by_digits P a b c d (suc zero) (suc zero) h k = d
by_digits P a b c d (suc (suc p)) q h k = absurd (omega arith)
by_digits P a b c d zero (suc (suc q)) h k = absurd (omega arith)
by_digits P a b c d (suc zero) (suc (suc q)) h k = absurd (omega arith)

max_is : (p q : ℕ) → p < 2 → q < 2 → (max p q == 1) ≡ ((p == 1) || (q == 1))
max_is = by_digits (λ p q. (max p q == 1) ≡ ((p == 1) || (q == 1))) refl refl refl refl

min_is : (p q : ℕ) → p < 2 → q < 2 → (min p q == 1) ≡ ((p == 1) && (q == 1))
min_is = by_digits (λ p q. (min p q == 1) ≡ ((p == 1) && (q == 1))) refl refl refl refl

other_is : (p : ℕ) → p < 2 → (1 - p == 1) ≡ not (p == 1)
other_is p h = by_digits (λ p q. (1 - p == 1) ≡ not (p == 1)) refl refl refl refl p 0 h (omega arith)

pub map_or : (left right : ℕ) → IsMapBy ◌||◌ left right (bit_or left right)
map_or left right k lt = ap (λ (v : ℕ). v == 1) (bit_at_or left right k) ∙ max_is (bit_at left k) (bit_at right k) (bit_at-lt left k) (bit_at-lt right k)

pub map_and : (left right : ℕ) → IsMapBy ◌&&◌ left right (bit_and left right)
map_and left right k lt = ap (λ (v : ℕ). v == 1) (bit_at_and left right k) ∙ min_is (bit_at left k) (bit_at right k) (bit_at-lt left k) (bit_at-lt right k)

-- a bit of the right that the left does not have
abbrev pub only_right : Bool → Bool → Bool
only_right left right = right && not left

pub map_only_right : (left right : ℕ) → left < 2 ^ 64 → IsMapBy only_right left right (bit_and right (bit_not w64 left))
map_only_right left right fit k lt =
    map_and right (bit_not w64 left) k lt ∙ ap (λ (v : ℕ). (bit_at right k == 1) && (v == 1)) (bit_at_not w64 left k fit lt) ∙ ap (λ (x : Bool). (bit_at right k == 1) && x) (other_is (bit_at left k) (bit_at-lt left k))

-- a bit of the left that the right does not have
abbrev pub only_left : Bool → Bool → Bool
only_left left right = only_right right left

pub map_only_left : (left right : ℕ) → right < 2 ^ 64 → IsMapBy only_left left right (bit_and left (bit_not w64 right))
map_only_left left right fit = map_only_right right left fit

pub none_left : (ns : List Node) → true ≡ (length ns == 0) → ns ≡ []
none_left ns e = nil_from_length ns (eqb-true (length ns) 0 (sym e))

-- Where one is used up, no bit is in both of what is left.
pub common_none : (a b : List Node) → (a ≡ []) ⊎ (b ≡ []) → (bit : ℕ) → (has_bit a bit && has_bit b bit) ≡ false
common_none a b (inl e) bit = rw e refl
common_none a b (inr e) bit = rw e (and_never (has_bit a bit) false refl)

-- Where one is used up, what is left of the left is not in the right.
pub difference-end : (first second out a b : List Node) → Merging only_left first second out a b → (a ≡ []) ⊎ (b ≡ []) → IsSet (out ++ a) × IsByBits only_left first second (out ++ a)
difference-end first second out a b h none = Merging-rest only_left first second out a b a h h.left (λ base p q. p) (λ bit. elim none [
  | inl e ↦ rw e refl
  | inr e ↦ rw e (sym (and_always (has_bit a bit)))
])

-- What is not in the rests is not in the two sets.
pub Merging-none : (test : Bool → Bool → Bool) (first second a b : List Node) → Merging test first second [] a b → ((bit : ℕ) → test (has_bit a bit) (has_bit b bit) ≡ false) → (bit : ℕ) → test (has_bit first bit) (has_bit second bit) ≡ false
Merging-none test first second a b h none bit = sym (h.bits bit) ∙ none bit

-- a set that is not empty has a bit
pub has_some : (ns : List Node) → IsSet ns → (length ns == 0) ≡ false → (bit : ℕ) × (has_bit ns bit ≡ true)
has_some [] h e = absurd cc
has_some (n ∷ ns) h e = let one = some_bit n h.0.2 h.1.0.1 in (one.0, or_left (node_has one.0 n) (has_bit ns one.0) one.1)

-- each bit of the right is in the left, or one is not
pub each_right : (left right : Bool) → only_right left right ≡ false → right ≡ true → left ≡ true
each_right true right e there = refl
each_right false true e there = absurd cc
each_right false false e there = there

pub not_right : (left right : Bool) → only_right left right ≡ true → (right ≡ true → left ≡ true) → ⊥
not_right true true e all = absurd cc
not_right true false e all = absurd cc
not_right false true e all = absurd (cc (all refl))
not_right false false e all = absurd cc

-- Where one is used up, each bit of the right is in the left exactly where the right is used up.
pub contains_end : (first second a b : List Node) → Merging only_right first second [] a b → (a ≡ []) ⊎ (b ≡ []) → (r : Bool) → r ≡ (length b == 0) → (r ≡ true) ↔ ((bit : ℕ) → has_bit second bit ≡ true → has_bit first bit ≡ true)
contains_end first second a b h none true e =
    let nil : b ≡ [] = none_left b e in
    (λ t bit there. each_right (has_bit first bit) (has_bit second bit) (Merging-none only_right first second a b h (λ c. rw nil refl) bit) there, λ all. refl)
contains_end first second a b h none false e =
    let one = has_some b h.right (sym e) in
    let nil : a ≡ [] = elim none [ inl p ↦ p | inr p ↦ absurd (false≢true (e ∙ rw p refl)) ] in
    let only : only_right (has_bit a one.0) (has_bit b one.0) ≡ true = rw (nil, one.1) refl in
    (λ t. absurd cc, λ all. absurd (not_right (has_bit first one.0) (has_bit second one.0) (sym (h.bits one.0) ∙ only) (all one.0)))
