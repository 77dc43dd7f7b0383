-- The sources of a datum that are declared, by the bits of the datum and by the declared values.
use Rattle.std.proofs.Common.{◌≡◌, ℕ, ◌+◌, ◌<◌, ◌≤◌, ◌^◌, Bool, true, false, inl, inr, ◌↔◌, List, [], ◌∷◌, ◌++◌, Some, None, refl, sym, ap, ◌∙◌, arith}
use Rattle.std.specs.Prelude.{◌==◌, IsTrue, min, if◌then◌else◌}
use Rattle.std.specs.List.{Contains, filter}
use Rattle.std.specs.Option.{option_to_list}
use Rattle.std.proofs.lemmas.Bool.{cases_Bool, cond_both, eqb-true, eq-eqb, false≢true}
use Rattle.std.proofs.lemmas.List.Elements.{All-contains, Contains-append_cases, Contains-append_right}
use Rattle.pol_bitmap.specs.declared.node.Node.{Node}
use Rattle.pol_bitmap.specs.Nodes.{bits_of, has_bit}
use Rattle.pol_bitmap.specs.Sets.{IsSet}
use Rattle.pol_bitmap.proofs.BitLists.{RisesFrom, rises_lower, rises_same, bits_rise, has_bit-from_bits, bits-from_has_bit}
use Rattle.pol_bitmap.proofs.Elements.{contains_nothing, contains_one, contains_first, kept, keeps}
use Rattle.pol_bitmap.proofs.SetLaws.{set_bits_fit}
use Rattle.pol_convert.specs.Ungrouped.{is_source, declared_sources}
use Rattle.pol_convert.specs.Inner.FoundSources.{source_of_bit, found_sources}
use Rattle.pol_convert.proofs.Members.{any_from, any_gives}

-- ---- one bit

same_tests : (p q : Bool) → (p ≡ true → q ≡ true) → (q ≡ true → p ≡ true) → p ≡ q
same_tests true q h k = sym (h refl)
same_tests false true h k = k refl
same_tests false false h k = refl

-- what a set answers is the test of its nodes
pub has_is : (r : Bool) (ns : List Node) (bit : ℕ) → IsTrue r ↔ Contains (bits_of ns) bit → r ≡ has_bit ns bit
has_is r ns bit h = same_tests r (has_bit ns bit) (λ t. has_bit-from_bits ns bit (h.0 t)) (λ t. h.1 (bits-from_has_bit ns bit t))

-- no value is beyond those of 32 bits
pub none_beyond : (ns : List Node) (bit : ℕ) → IsSet ns → 2 ^ 32 ≤ bit → has_bit ns bit ≡ false
none_beyond ns bit h le = elim (cases_Bool (has_bit ns bit)) [
  | inl there ↦ let lt : bit < 2 ^ 32 = All-contains (λ (b : ℕ). b < 2 ^ 32) (bits_of ns) bit (set_bits_fit ns h) (bits-from_has_bit ns bit there) in absurd (omega arith)
  | inr none ↦ none
]

pub some_source : (declared : List Node) (bit : ℕ) → has_bit declared (bit + 1) ≡ true → Some (bit + 1) ≡ source_of_bit declared bit
some_source declared bit e = rw e refl

pub no_source : (declared : List Node) (bit : ℕ) → has_bit declared (bit + 1) ≡ false → None ≡ source_of_bit declared bit
no_source declared bit e = rw e refl

-- ---- all of them

-- the sources of a bit and of higher ones rise
found_rise : (declared : List Node) (least : ℕ) (bits : List ℕ) → RisesFrom least bits → RisesFrom (least + 1) (found_sources declared bits)
found_rise declared least [] h = tt
found_rise declared least (bit ∷ bits) h = go (has_bit declared (bit + 1)) (found_rise declared (bit + 1) bits h.1)
  where
    go : (b : Bool) → RisesFrom (bit + 1 + 1) (found_sources declared bits) → RisesFrom (least + 1) (option_to_list (if b then Some (bit + 1) else None) ++ found_sources declared bits)
    go true rest = (omega (arith, h.0), rest)
    go false rest = rises_lower (least + 1) (bit + 1 + 1) (found_sources declared bits) (omega (arith, h.0)) rest

filter_rise : (p : ℕ → Bool) (least : ℕ) (xs : List ℕ) → RisesFrom least xs → RisesFrom least (filter p xs)
filter_rise p least [] h = tt
filter_rise p least (x ∷ xs) h =
    let rest = filter_rise p (x + 1) xs h.1 in
    cond_both (p x) (x ∷ filter p xs) (filter p xs) (RisesFrom least) (λ t. (h.0, rest)) (λ t. rises_lower least (x + 1) (filter p xs) (omega (arith, h.0)) rest)

-- a bit whose value is found
record Stands (declared : List Node) (bits : List ℕ) (value : ℕ) : Type 0 where
  pub bit : ℕ
  pub there : Contains bits bit
  pub next : bit + 1 ≡ value
  pub known : has_bit declared (bit + 1) ≡ true

later : (declared : List Node) (bit : ℕ) (bits : List ℕ) (value : ℕ) → Stands declared bits value → Stands declared (bit ∷ bits) value
later declared bit bits value s = record { bit = s.bit; there = Contains-append_right (bit ∷ []) bits s.bit s.there; next = s.next; known = s.known }

found_stands : (declared : List Node) (bits : List ℕ) (value : ℕ) → Contains (found_sources declared bits) value → Stands declared bits value
found_stands declared [] value h = absurd (contains_nothing value h)
found_stands declared (bit ∷ bits) value h = go (has_bit declared (bit + 1)) refl (λ m. later declared bit bits value (found_stands declared bits value m)) h
  where
    go : (b : Bool) → has_bit declared (bit + 1) ≡ b → (Contains (found_sources declared bits) value → Stands declared (bit ∷ bits) value)
        → Contains (option_to_list (if b then Some (bit + 1) else None) ++ found_sources declared bits) value → Stands declared (bit ∷ bits) value
    go true e rest m = elim (Contains-append_cases ((bit + 1) ∷ []) (found_sources declared bits) value m) [
      | inl one ↦ record { bit = bit; there = contains_first bit bits; next = contains_one value (bit + 1) one; known = e }
      | inr more ↦ rest more
    ]
    go false e rest m = rest m

stands_found : (declared : List Node) (bits : List ℕ) (value : ℕ) → Stands declared bits value → Contains (found_sources declared bits) value
stands_found declared [] value s = absurd (contains_nothing s.bit s.there)
stands_found declared (bit ∷ bits) value s = elim (Contains-append_cases (bit ∷ []) bits s.bit s.there) [
  | inl one ↦ here (has_bit declared (bit + 1)) (contains_one s.bit bit one) refl
  | inr rest ↦ Contains-append_right (option_to_list (source_of_bit declared bit)) (found_sources declared bits) value (stands_found declared bits value (record { bit = s.bit; there = rest; next = s.next; known = s.known }))
]
  where
    here : (b : Bool) → bit ≡ s.bit → has_bit declared (bit + 1) ≡ b → Contains (option_to_list (if b then Some (bit + 1) else None) ++ found_sources declared bits) value
    here true e known = rw (← s.next, ← e) (contains_first (bit + 1) (found_sources declared bits))
    here false e known = absurd (false≢true (sym known ∙ ap (λ (c : ℕ). has_bit declared (c + 1)) e ∙ s.known))

found_declared : (declared sources : List Node) (value : ℕ) → Stands declared (bits_of sources) value → Contains (declared_sources declared sources) value
found_declared declared sources value s =
    let known : has_bit declared value ≡ true = ap (has_bit declared) (sym s.next) ∙ s.known in
    keeps (is_source sources) (bits_of declared) value (bits-from_has_bit declared value known) (any_from (λ bit. bit + 1 == value) (bits_of sources) s.bit s.there (eq-eqb (s.bit + 1) value s.next))

declared_found : (declared sources : List Node) (value : ℕ) → Contains (declared_sources declared sources) value → Stands declared (bits_of sources) value
declared_found declared sources value m =
    let h = kept (is_source sources) (bits_of declared) value m in
    let f = any_gives (λ bit. bit + 1 == value) (bits_of sources) h.1 in
    let next : f.0 + 1 ≡ value = eqb-true (f.0 + 1) value f.2 in
    record { bit = f.0; there = f.1; next = next; known = ap (has_bit declared) next ∙ has_bit-from_bits declared value h.0 }

-- They are the declared values whose bits the datum has, in one order.
pub found_is : (declared sources : List Node) → IsSet declared → IsSet sources → found_sources declared (bits_of sources) ≡ declared_sources declared sources
found_is declared sources h k = rises_same (0 + 1) 0 (found_sources declared (bits_of sources)) (declared_sources declared sources)
    (found_rise declared 0 (bits_of sources) (bits_rise 0 sources k.0)) (filter_rise (is_source sources) 0 (bits_of declared) (bits_rise 0 declared h.0))
    (λ value. (
      λ m. found_declared declared sources value (found_stands declared (bits_of sources) value m),
      λ m. stands_found declared (bits_of sources) value (declared_found declared sources value m),
    ))

-- ---- counts that stop at a greatest number

pub at_end : (count left total most : ℕ) → count ≤ most → left ≡ 0 → min (count + left) most ≡ total → count ≡ total
at_end count left total most le none h = omega (arith, le, none, h)
