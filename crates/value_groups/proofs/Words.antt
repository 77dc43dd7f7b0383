-- Words of 64 bits, and what one bit, one word and the nodes of a set add to them.
use Rattle.std.proofs.Common.{◌≡◌, ℕ, zero, suc, ◌+◌, ◌-◌, ◌*◌, ◌/◌, ◌%◌, ◌^◌, ◌<◌, ◌≤◌, Bool, true, false, List, [], ◌∷◌, ◌++◌, length, get_or, set, take, replicate, refl, sym, ap, subst, ◌∙◌, inl, inr, append-nil, arith}
use Rattle.std.specs.Prelude.{◌||◌, ◌==◌, nat_le, nat_lt, bit_or}
use Rattle.std.specs.Int.{bit_at}
use Rattle.std.specs.List.{All, AllByRecursion, Contains, filter, range_with_len}
use Rattle.std.proofs.lemmas.Bool.{cases_eq, cases_lt, cases_order, cond_both, false≢true, or_cases, or_left, or_right, eqb-true, eq-eqb, ne_eqb, le-leb, lt-ltb, lt-leb}
use Rattle.std.proofs.lemmas.Nat.Bits.{bit_at-zero}
use Rattle.std.proofs.lemmas.List.{get_or-set_same, get_or-set_other, get_or-replicate, get_or_past, get_or_append_left, get_or_push, length-replicate, length_push, take_more}
use Rattle.std.proofs.lemmas.List.Folds.{list_any-append}
use Rattle.std.proofs.lemmas.List.Elements.{All-contains, All-from_get_or, All-head, All-tail, Contains-append_right, Contains-append_cases}
use Rattle.std.proofs.lemmas.Option.{slice_get-get_or}
use Rattle.pol_cursor.proofs.BitPlaces.{or_nothing}
use Rattle.pol_bitmap.specs.declared.Node.{Node}
use Rattle.pol_bitmap.specs.Bitmap.{NodeFits}
use Rattle.pol_bitmap.specs.Nodes.{bits_of, node_has, has_bit, IsRisingFrom}
use Rattle.pol_bitmap.specs.Sets.{IsSet}
use Rattle.pol_bitmap.proofs.BitLists.{RisesFrom, rises_lower, rises_same, bits_rise, has_bit-from_bits, bits-from_has_bit}
use Rattle.pol_bitmap.proofs.Elements.{kept, keeps, contains_nothing, contains_one, contains_first, contains_range}
use Rattle.pol_bitmap.proofs.Merging.{IsRisingTo, made-more, made-end, fits-more, map_or, node_above, no_bit}
use Rattle.pol_bitmap.proofs.NodeBits.{rising_start}
use Rattle.pol_bitmap.proofs.SetMaking.{map_of, gains_node, starts_below}
use Rattle.value_groups.specs.Among.{is_among}
use Rattle.value_groups.specs.Inner.Dense.{word_has, values_in, IsDense}

-- nothing passes
filter_none : (p : ℕ → Bool) (xs : List ℕ) → All (λ x. p x ≡ false) xs → filter p xs ≡ []
filter_none p [] h = refl
filter_none p (x ∷ xs) h = rw (All-head (λ (x : ℕ). p x ≡ false) x xs h, filter_none p xs (All-tail (λ (x : ℕ). p x ≡ false) x xs h)) refl

-- ---- one word

-- a word is the map of a node, for the values that have their bits in it
in_word : (n : Node) (value : ℕ) → n.start % 64 ≡ 0 → value / 64 ≡ n.start / 64 → node_has value n ≡ (bit_at n.map (value % 64) == 1)
in_word n value whole e =
    let from : nat_le n.start value ≡ true = le-leb n.start value (omega (arith, whole, e)) in
    let to : nat_lt value (n.start + 64) ≡ true = lt-ltb value (n.start + 64) (omega (arith, whole, e)) in
    let place : value - n.start ≡ value % 64 = omega (arith, whole, e) in
    rw (from, to, place) refl

-- and for no others
out_of_word : (n : Node) (value : ℕ) → n.start % 64 ≡ 0 → (value / 64 ≡ n.start / 64 → ⊥) → node_has value n ≡ false
out_of_word n value whole other =
    elim (cases_lt value n.start) [
      | inl lt ↦ rw (lt-leb n.start value lt) refl
      | inr le ↦ node_above value n (omega (arith, whole, other, le))
    ]

-- words that have no value
pub no_words_have : (count value : ℕ) → word_has (replicate count 0) value ≡ false
unfolding word_has
no_words_have count value =
    let nothing : get_or (replicate count 0) (value / 64) 0 ≡ 0 = elim (cases_lt (value / 64) count) [
      | inl lt ↦ get_or-replicate count (value / 64) 0 0 lt
      | inr le ↦ get_or_past (replicate count 0) (value / 64) 0 (omega (arith, le, length-replicate {A = ℕ} count 0))
    ] in
    ap (λ (w : ℕ). bit_at w (value % 64) == 1) nothing ∙ ap (λ (b : ℕ). b == 1) (bit_at-zero (value % 64))

-- there is none past the words
past_words : (words : List ℕ) (value : ℕ) → length words ≤ value / 64 → word_has words value ≡ false
unfolding word_has
past_words words value le = ap (λ (w : ℕ). bit_at w (value % 64) == 1) (get_or_past words (value / 64) 0 le) ∙ ap (λ (b : ℕ). b == 1) (bit_at-zero (value % 64))

-- the map of a node, added to its word
pub word_or : (words : List ℕ) (n : Node) (value : ℕ) → n.start % 64 ≡ 0 → n.start / 64 < length words
    → word_has (set words (n.start / 64) (bit_or (get_or words (n.start / 64) 0) n.map)) value ≡ (word_has words value || node_has value n)
unfolding word_has
word_or words n value whole lt =
    let k = n.start / 64 in
    let old = get_or words k 0 in
    let new = bit_or old n.map in
    elim (cases_eq (value / 64) k) [
      | inl e ↦
          ap (λ (i : ℕ). bit_at (get_or (set words k new) i 0) (value % 64) == 1) e
          ∙ ap (λ (w : ℕ). bit_at w (value % 64) == 1) (get_or-set_same words k new 0 lt)
          ∙ map_or old n.map (value % 64) (omega arith)
          ∙ ap (λ (b : Bool). (bit_at old (value % 64) == 1) || b) (sym (in_word n value whole e))
          ∙ ap (λ (i : ℕ). (bit_at (get_or words i 0) (value % 64) == 1) || node_has value n) (sym e)
      | inr other ↦
          ap (λ (w : ℕ). bit_at w (value % 64) == 1) (get_or-set_other words k (value / 64) new 0 other)
          ∙ sym (ap (λ (b : Bool). (bit_at (get_or words (value / 64) 0) (value % 64) == 1) || b) (out_of_word n value whole other) ∙ or_nothing _)
    ]

-- ---- one value

same_ways : (a b : ℕ) → (a == b) ≡ (b == a)
same_ways a b = elim (cases_eq a b) [
  | inl e ↦ eq-eqb a b e ∙ sym (eq-eqb b a (sym e))
  | inr n ↦ ne_eqb a b n ∙ sym (ne_eqb b a (λ e. n (sym e)))
]

-- the node of one value
one_has : (value other : ℕ) → value < 2 ^ 32 → node_has other (record { start = value - value % 64; map = map_of value }) ≡ (value == other)
one_has value other fit =
    let gains = gains_node value [] fit (tt, tt) (λ i d e. absurd (omega (arith, e))) in
    sym (or_nothing (node_has other (record { start = value - value % 64; map = map_of value }))) ∙ gains.bits other ∙ same_ways other value

pub word_add : (words : List ℕ) (value other : ℕ) → value < 2 ^ 32 → value / 64 < length words
    → word_has (set words (value / 64) (bit_or (get_or words (value / 64) 0) (1 * 2 ^ (value % 64) % 2 ^ 64))) other ≡ (word_has words other || (value == other))
word_add words value other fit lt =
    let n : Node = record { start = value - value % 64; map = map_of value } in
    let k : (value - value % 64) / 64 ≡ value / 64 = omega arith in
    ap (λ (i : ℕ). word_has (set words i (bit_or (get_or words i 0) (map_of value))) other) (sym k)
    ∙ word_or words n other (omega arith) (omega (arith, k, lt))
    ∙ ap (λ (b : Bool). word_has words other || b) (one_has value other fit)

-- ---- the nodes of a set

-- one node more
pub nodes_more : (old now next : List ℕ) (nodes : List Node) (i : ℕ) (d : Node) → i < length nodes → ((value : ℕ) → word_has now value ≡ (word_has old value || has_bit (take i nodes) value))
    → ((value : ℕ) → word_has next value ≡ (word_has now value || node_has value (get_or nodes i d))) → (value : ℕ) → word_has next value ≡ (word_has old value || has_bit (take (i + 1) nodes) value)
nodes_more old now next nodes i d lt are more value =
    let n = get_or nodes i d in
    let front : has_bit (take (i + 1) nodes) value ≡ (has_bit (take i nodes) value || node_has value n) =
    ap (λ (ns : List Node). has_bit ns value) (take_more nodes i d lt) ∙ list_any-append (node_has value) (take i nodes) (n ∷ []) ∙ ap (λ (b : Bool). has_bit (take i nodes) value || b) (or_nothing (node_has value n)) in
    more value ∙ ap (λ (b : Bool). b || node_has value n) (are value) ∙ or_assoc (word_has old value) (has_bit (take i nodes) value) (node_has value n) ∙ ap (λ (b : Bool). word_has old value || b) (sym front)
  where
    or_assoc : (a b c : Bool) → ((a || b) || c) ≡ (a || (b || c))
    or_assoc true b c = refl
    or_assoc false b c = refl

-- the nodes of a set of values below the words' bits stand for these words
pub start_within : (nodes : List Node) (size i : ℕ) (d : Node) → i < length nodes → IsSet nodes → All (λ value. value < 64 * size) (bits_of nodes) → (get_or nodes i d).start / 64 < size
start_within nodes size i d lt is within =
    let below = starts_below 0 (64 * size) nodes i d lt is (λ c there. All-contains (λ (value : ℕ). value < 64 * size) (bits_of nodes) c within (bits-from_has_bit nodes c there)) in
    omega (arith, below)

pub start_whole : (nodes : List Node) (i : ℕ) (d : Node) → i < length nodes → IsSet nodes → (get_or nodes i d).start % 64 ≡ 0
start_whole nodes i d lt is = rising_start 0 nodes i (get_or nodes i d) is.0 (slice_get-get_or nodes i d lt)

-- ---- nodes made of words

-- these nodes are those of the words
pub record AreNodesOf (words : List ℕ) (nodes : List Node) : Type 0 where
  pub made : IsRisingTo 0 (64 * length words) nodes
  pub fits : AllByRecursion NodeFits nodes
  pub each : (value : ℕ) → has_bit nodes value ≡ word_has words value

pub nodes_none : AreNodesOf [] []
unfolding word_has
nodes_none = record { made = omega arith; fits = tt; each = λ value. sym (past_words [] value (omega arith)) }

-- a word behind others
word_push : (words : List ℕ) (word value : ℕ) → word_has (words ++ word ∷ []) value ≡ (word_has words value || node_has value (record { start = 64 * length words; map = word }))
unfolding word_has
word_push words word value =
    let n : Node = record { start = 64 * length words; map = word } in
    let whole : n.start % 64 ≡ 0 = omega arith in
    let k : n.start / 64 ≡ length words = omega arith in
    let size : length (words ++ word ∷ []) ≡ length words + 1 = length_push words word in
    elim (cases_order (value / 64) (length words)) [
      | inl e ↦
          ap (λ (w : ℕ). bit_at w (value % 64) == 1) (get_or_push words word 0 (value / 64) (sym e))
          ∙ sym (in_word n value whole (e ∙ sym k))
          ∙ ap (λ (b : Bool). b || node_has value n) (sym (past_words words value (omega (arith, e))))
      | inr (inl lt) ↦
          ap (λ (w : ℕ). bit_at w (value % 64) == 1) (get_or_append_left words (word ∷ []) 0 (value / 64) lt)
          ∙ sym (ap (λ (b : Bool). word_has words value || b) (out_of_word n value whole (λ e. omega (arith, e, k, lt))) ∙ or_nothing _)
      | inr (inr gt) ↦
          past_words (words ++ word ∷ []) value (omega (arith, size, gt))
          ∙ sym (ap (λ (b : Bool). b || node_has value n) (past_words words value (omega (arith, gt))) ∙ out_of_word n value whole (λ e. omega (arith, e, k, gt)))
    ]

made_later : (least end later : ℕ) (nodes : List Node) → IsRisingTo least end nodes → end ≤ later → IsRisingTo least later nodes
made_later least end later [] h le = omega (arith, h, le)
made_later least end later (n ∷ ns) h le = (h.0, h.1, h.2, made_later (n.start + 64) end later ns h.3 le)

-- a word of no value makes no node
pub nodes_skip : (words : List ℕ) (nodes : List Node) → AreNodesOf words nodes → AreNodesOf (words ++ 0 ∷ []) nodes
nodes_skip words nodes are =
    let size : length (words ++ 0 ∷ []) ≡ length words + 1 = length_push words 0 in
    record {
      made = made_later 0 (64 * length words) (64 * length (words ++ 0 ∷ [])) nodes are.made (omega (arith, size));
      fits = are.fits;
      each = λ value.
          are.each value
          ∙ sym (word_push words 0 value ∙ ap (λ (b : Bool). word_has words value || b) (no_bit (64 * length words) value) ∙ or_nothing (word_has words value));
    }

pub nodes_push : (words : List ℕ) (word start : ℕ) (nodes : List Node) → AreNodesOf words nodes → 0 < word → word < 2 ^ 64 → length words < 1024 → start ≡ 64 * length words
    → AreNodesOf (words ++ word ∷ []) (nodes ++ record { start = start; map = word } ∷ [])
nodes_push words word start nodes are some fit few e =
    let n : Node = record { start = start; map = word } in
    let size : length (words ++ word ∷ []) ≡ length words + 1 = length_push words word in
    let end : start + 64 ≡ 64 * length (words ++ word ∷ []) = omega (arith, size, e) in
    record {
      made = subst (λ (m : ℕ). IsRisingTo 0 m (nodes ++ n ∷ [])) end (made-more 0 (64 * length words) nodes n are.made (omega (arith, e)) (omega (arith, e)) some);
      fits = fits-more nodes (n ∷ []) are.fits ((omega (arith, e, few), fit), tt);
      each = λ value.
          list_any-append (node_has value) nodes (n ∷ [])
          ∙ ap (λ (b : Bool). has_bit nodes value || b) (or_nothing (node_has value n))
          ∙ ap (λ (b : Bool). b || node_has value n) (are.each value)
          ∙ ap (λ (s : ℕ). word_has words value || node_has value (record { start = s; map = word })) e
          ∙ sym (word_push words word value);
    }

pub nodes_end : (words : List ℕ) (nodes : List Node) → AreNodesOf words nodes → IsSet nodes
nodes_end words nodes are =
    let rising : IsRisingFrom 0 (nodes ++ []) = made-end 0 (64 * length words) nodes [] are.made tt in
    (subst (λ (ns : List Node). IsRisingFrom 0 ns) (append-nil nodes) rising, are.fits)

-- ---- the bits of nodes as a list

rises_range : (p : ℕ → Bool) (a n : ℕ) → RisesFrom a (filter p (range_with_len a n))
rises_range p a zero = tt
rises_range p a (suc n) =
    let rest = rises_range p (a + 1) n in
    cond_both (p a) (a ∷ filter p (range_with_len (a + 1) n)) (filter p (range_with_len (a + 1) n)) (RisesFrom a) (λ t. (omega arith, rest)) (λ t. rises_lower a (a + 1) (filter p (range_with_len (a + 1) n)) (omega arith) rest)

-- nodes that have the numbers of a range that pass a test, and no others
pub nodes_pass : (p : ℕ → Bool) (first count : ℕ) (nodes : List Node) → IsSet nodes → ((value : ℕ) → has_bit nodes value ≡ p value) → ((value : ℕ) → p value ≡ true → (first ≤ value) × (value < first + count)) → bits_of nodes ≡ filter p (range_with_len first count)
nodes_pass p first count nodes is each within = rises_same 0 first (bits_of nodes) (filter p (range_with_len first count)) (bits_rise 0 nodes is.0) (rises_range p first count) λ x. (
  λ there.
      let passes : p x ≡ true = sym (each x) ∙ has_bit-from_bits nodes x there in
      let range = within x passes in
      keeps p (range_with_len first count) x (contains_range first count x range.0 range.1) passes,
  λ there. bits-from_has_bit nodes x (each x ∙ (kept p (range_with_len first count) x there).1),
)

-- ---- the values that are there

pub among_contains : (numbers : List ℕ) (number : ℕ) → is_among numbers number ≡ true → Contains numbers number
among_contains [] number e = absurd (false≢true e)
among_contains (x ∷ xs) number e = elim (or_cases (x == number) (is_among xs number) e) [
  | inl same ↦ subst (λ (n : ℕ). Contains (x ∷ xs) n) (eqb-true x number same) (contains_first x xs)
  | inr rest ↦ Contains-append_right (x ∷ []) xs number (among_contains xs number rest)
]

pub contains_among : (numbers : List ℕ) (number : ℕ) → Contains numbers number → is_among numbers number ≡ true
contains_among [] number h = absurd (contains_nothing number h)
contains_among (x ∷ xs) number h = elim (Contains-append_cases (x ∷ []) xs number h) [
  | inl one ↦ or_left (x == number) (is_among xs number) (eq-eqb x number (contains_one number x one))
  | inr rest ↦ or_right (x == number) (is_among xs number) (contains_among xs number rest)
]

same_tests : (a b : Bool) → (a ≡ true → b ≡ true) → (b ≡ true → a ≡ true) → a ≡ b
same_tests true b there back = sym (there refl)
same_tests false true there back = absurd (false≢true (back refl))
same_tests false false there back = refl

pub among_bits : (nodes : List Node) (value : ℕ) → is_among (bits_of nodes) value ≡ has_bit nodes value
among_bits nodes value = same_tests (is_among (bits_of nodes) value) (has_bit nodes value)
    (λ e. has_bit-from_bits nodes value (among_contains (bits_of nodes) value e)) (λ e. contains_among (bits_of nodes) value (bits-from_has_bit nodes value e))

pub among_values : (count : ℕ) (words : List ℕ) (value : ℕ) → IsDense count words → is_among (values_in count words) value ≡ word_has words value
unfolding values_in
among_values count words value are = same_tests (is_among (values_in count words) value) (word_has words value)
    (λ e. (kept (word_has words) (range_with_len 0 count) value (among_contains (values_in count words) value e)).1)
    (λ e. contains_among (values_in count words) value (keeps (word_has words) (range_with_len 0 count) value (contains_range 0 count value (omega arith) (omega (arith, are.within value e))) e))

pub no_values : (count words : ℕ) → values_in count (replicate words 0) ≡ []
unfolding values_in
no_values count words = filter_none (word_has (replicate words 0)) (range_with_len 0 count) (All-from_get_or (λ value. word_has (replicate words 0) value ≡ false) (range_with_len 0 count) 0 (λ k lt. no_words_have words (get_or (range_with_len 0 count) k 0)))

pub dense_none : (count size : ℕ) → count ≤ 65536 → size ≡ (count + 63) / 64 → IsDense count (replicate size 0)
dense_none count size few e = record {
  few = few;
  long = length-replicate {A = ℕ} size 0 ∙ e;
  within = λ value there. absurd (false≢true (sym (no_words_have size value) ∙ there));
}

-- what is added is below the count
pub dense_more : (count : ℕ) (words next : List ℕ) (more : ℕ → Bool) → IsDense count words → length next ≡ length words → ((value : ℕ) → word_has next value ≡ (word_has words value || more value)) → ((value : ℕ) → more value ≡ true → value < count) → IsDense count next
dense_more count words next more are size each within = record {
  few = are.few;
  long = size ∙ are.long;
  within = λ value there. elim (or_cases (word_has words value) (more value) (sym (each value) ∙ there)) [
    | inl old ↦ are.within value old
    | inr new ↦ within value new
  ];
}
