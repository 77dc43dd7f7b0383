-- No two rules of a policy that is made have the same key: the key of a rule tells its number in the table.
use Rattle.std.proofs.Common.{inl, inr, ◌≡◌, ℕ, zero, suc, ◌+◌, ◌-◌, ◌*◌, ◌%◌, ◌<◌, ◌≤◌, ◌==◌, Bool, true, false, List, [], ◌∷◌, ◌++◌, length, refl, sym, ap, ◌∙◌, if◌then◌else◌, arith}
use Rattle.std.specs.Prelude.{map, nat_le}
use Rattle.std.specs.List.{flat_map, range_with_len, AllByRecursion}
use Rattle.std.proofs.Math.Nat.{mod-eq_of_lt, add-mod_left}
use Rattle.std.proofs.lemmas.Bool.{cases_lt, lt-leb, le-leb, eqb-true, ne_eqb, and_parts}
use Rattle.std.proofs.lemmas.List.Concat.{flat_map-cons}
use Rattle.pol_avtab.specs.declared.AvKey.{AvKey}
use Rattle.pol_avtab.specs.declared.AvRec.{AvRec}
use Rattle.pol_avtab.specs.AvKeys.{key_of, same_key, has_key}
use Rattle.pol_make.specs.MadeRules.{ring_value, attribute_of, allow, transition_rules, file_rules, attribute_rule, rules_of, made_rules}

-- ---- the ring

-- how many places after a type of the ring another one stands, by their values
abbrev pub places_between : ℕ → ℕ → ℕ → ℕ
places_between n source target = if nat_le source target then target - source else target + n - source

-- no place after itself
pub ring-itself : (n i : ℕ) → i < n → ring_value n i 0 ≡ i + 1
ring-itself n i within = let same : i + 0 ≡ i = omega arith in rw (same, mod-eq_of_lt within) refl

pub ring-places : (n i places : ℕ) → i < n → places < n → places_between n (i + 1) (ring_value n i places) ≡ places
ring-places n i places within few = elim (cases_lt (i + places) n) [
  | inl below ↦ rw (mod-eq_of_lt below, le-leb (i + 1) (i + places + 1) (omega arith)) (omega arith)
  | inr above ↦
      let round : (i + places) % n ≡ i + places - n =
      let sum : n + (i + places - n) ≡ i + places = omega (arith, above) in
      let less : i + places - n < n = omega (arith, within, few) in
      ap (λ (k : ℕ). k % n) (sym sum) ∙ add-mod_left n (i + places - n) ∙ mod-eq_of_lt less in
      rw (round, lt-leb (i + 1) (i + places - n + 1) (omega (arith, above, few))) (omega (arith, above, within))
]

-- ---- the number of a rule

-- among the twenty of its source, by its class and by how many places the target stands after the source
abbrev pub number_among : ℕ → ℕ → ℕ
number_among class places = if class == 3 then 1 - places else if places == 1 then 3 else places

-- in the table, where a source above n is an attribute, whose rule is the last of twenty. Its target stands nineteen places after the
-- type.
abbrev pub number_of : ℕ → AvKey → ℕ
number_of n key =
    if nat_le key.source n then 20 * (key.source - 1) + number_among key.class (places_between n key.source key.target)
    else 20 * places_between n 20 key.target + 19

type-number : (n i class places permissions : ℕ) → i < n → places < n → number_of n (key_of (allow (ring_value n i 0) (ring_value n i places) class permissions)) ≡ 20 * i + number_among class places
type-number n i class places permissions within few =
    rw (ring-itself n i within, le-leb (i + 1) n (omega (arith, within)), ring-places n i places within few) (ap (λ (k : ℕ). 20 * k + number_among class places) (omega arith))

attribute-number : (n i : ℕ) → 20 ≤ n → i < n → number_of n (key_of (attribute_rule n i)) ≡ 20 * i + 19
attribute-number n i many within =
    let turned : i + 19 ≡ 19 + i = omega arith in
    rw (lt-leb (n + 1 + attribute_of n i) n (omega arith), turned, ring-places n 19 i (omega (arith, many)) within) refl

-- ---- the numbers rise by one

-- the rules have the numbers from this one on
abbrev pub AreNumbered : ℕ → ℕ → List AvRec → Type 0
AreNumbered n first [] = Unit {0}
AreNumbered n first (av ∷ avs) = (number_of n (key_of av) ≡ first) × AreNumbered n (first + 1) avs

numbered-append : (n first : ℕ) (xs ys : List AvRec) → AreNumbered n first xs → AreNumbered n (first + length xs) ys → AreNumbered n first (xs ++ ys)
numbered-append n first [] ys h k = let same : first + 0 ≡ first = omega arith in rw same at k
numbered-append n first (x ∷ xs) ys h k =
    let same : first + length (x ∷ xs) ≡ first + 1 + length xs = omega arith in
    (h.0, numbered-append n (first + 1) xs ys h.1 (rw same at k))

file-rules-numbered : (n i start count : ℕ) → i < n → 2 ≤ start → start + count ≤ n → AreNumbered n (20 * i + start) (map (λ places. allow (ring_value n i 0) (ring_value n i places) 1 6) (range_with_len start count))
file-rules-numbered n i start zero within some few = tt
file-rules-numbered n i start (suc count) within some few =
    let next : 20 * i + start + 1 ≡ 20 * i + (start + 1) = omega arith in
    let other : (start == 1) ≡ false = ne_eqb start 1 (λ one. omega (arith, one, some)) in
    (type-number n i 1 start 6 within (omega (arith, few)) ∙ rw other refl, rw next (file-rules-numbered n i (start + 1) count within (omega (arith, some)) (omega (arith, few))))

of-one-numbered : (n i : ℕ) → 20 ≤ n → i < n → AreNumbered n (20 * i) (rules_of n i)
unfolding rules_of
of-one-numbered n i many within =
    let files : AreNumbered n (20 * i + 4) (file_rules n i) = file-rules-numbered n i 4 15 within (omega arith) (omega (arith, many)) in
    let last : AreNumbered n (20 * i + 4 + 15) (attribute_rule n i ∷ []) = (attribute-number n i many within ∙ omega arith, tt) in
    let first : AreNumbered n (20 * i) (transition_rules n i) = (
      type-number n i 3 1 1 within (omega (arith, many)) ∙ omega arith,
      (
        type-number n i 3 0 2 within (omega (arith, many)),
        (
          type-number n i 1 2 32 within (omega (arith, many)) ∙ omega arith,
          (
            type-number n i 1 1 64 within (omega (arith, many)) ∙ omega arith,
            tt,
          ),
        ),
      ),
    ) in
    numbered-append n (20 * i) (transition_rules n i) (file_rules n i ++ attribute_rule n i ∷ []) first (numbered-append n (20 * i + 4) (file_rules n i) (attribute_rule n i ∷ []) files last)

pub length-rules_of : (n i : ℕ) → length (rules_of n i) ≡ 20
unfolding rules_of
length-rules_of n i = refl

some-numbered : (n start count : ℕ) → 20 ≤ n → start + count ≤ n → AreNumbered n (20 * start) (flat_map (rules_of n) (range_with_len start count))
some-numbered n start zero many within = tt
some-numbered n start (suc count) many within =
    let next : 20 * start + length (rules_of n start) ≡ 20 * (start + 1) = omega (arith, length-rules_of n start) in
    rw flat_map-cons (numbered-append n (20 * start) (rules_of n start) (flat_map (rules_of n) (range_with_len (start + 1) count)) (of-one-numbered n start many (omega (arith, within)))
    (rw next (some-numbered n (start + 1) count many (omega (arith, within)))))

pub rules-numbered : (n : ℕ) → 20 ≤ n → AreNumbered n 0 (made_rules n)
unfolding made_rules
rules-numbered n many = some-numbered n 0 n many (omega arith)

-- ---- numbers tell keys apart

same-number : (n : ℕ) (a b : AvKey) → same_key a b ≡ true → number_of n a ≡ number_of n b
same-number n a b same =
    let parts = and_parts _ _ (and_parts _ _ same).0 in
    let ends = and_parts _ _ parts.0 in
    rw (eqb-true a.source b.source ends.0, eqb-true a.target b.target ends.1, eqb-true a.class b.class parts.1) refl

not-true : (b : Bool) → (b ≡ true → ⊥) → b ≡ false
not-true true h = absurd (h refl)
not-true false h = refl

-- all keys have numbers below this one
abbrev pub AreBelow : ℕ → ℕ → List AvKey → Type 0
AreBelow n number keys = AllByRecursion (λ key. number_of n key < number) keys

pub number-is_new : (n : ℕ) (keys : List AvKey) (key : AvKey) → AreBelow n (number_of n key) keys → has_key keys key ≡ false
number-is_new n [] key below = refl
number-is_new n (k ∷ keys) key below = rw (not-true (same_key key k) (λ same. omega (arith, below.0, same-number n key k same))) (number-is_new n keys key below.1)
