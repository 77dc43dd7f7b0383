-- Keys that stand in the order of tables that libsepol wrote.
use Rattle.std.proofs.Common.{◌≡◌, ℕ, ◌^◌, ◌<◌, false, inl, inr, min, max, List, [], ◌∷◌, ◌++◌, refl, sym, ap, subst, ◌∙◌, arith}
use Rattle.std.specs.Prelude.{◌==◌, bit_and, bit_or}
use Rattle.std.specs.Int.{bit_at}
use Rattle.std.specs.List.{AllByRecursion, Contains, IsDistinct}
use Rattle.std.proofs.lemmas.Nat.{and_or_self}
use Rattle.std.proofs.lemmas.Nat.Bits.{bit_at_or, bit_at_and, same_from_bits}
use Rattle.std.proofs.lemmas.Bool.{ne_eqb}
use Rattle.std.proofs.lemmas.List.Elements.{Contains-append_right, Contains-append_cases}
use Rattle.pol_bitmap.proofs.Elements.{contains_nothing, contains_one, contains_first}
use Rattle.pol_avtab.specs.declared.key_order.LastKey.{LastKey}
use Rattle.pol_avtab.specs.Inner.DuplicateKeys.{slot_of, place_in_slot, order_in, order_of, last_order, kind_bit, IsPassed, Follows, AreRising}

min_more : (a b c : ℕ) → min a c ≡ c → min (max a b) c ≡ c
min_more a b c e = omega (e, arith)

-- a mask's bits stay where others are set besides
mask_stays : (kinds more mask : ℕ) → bit_and kinds mask ≡ mask → bit_and (bit_or kinds more) mask ≡ mask
mask_stays kinds more mask held =
    same_from_bits (bit_and (bit_or kinds more) mask) mask λ i.
    let was : min (bit_at kinds i) (bit_at mask i) ≡ bit_at mask i = sym (bit_at_and kinds mask i) ∙ ap (λ (n : ℕ). bit_at n i) held in
    bit_at_and (bit_or kinds more) mask i ∙ ap (λ (n : ℕ). min n (bit_at mask i)) (bit_at_or kinds more i) ∙ min_more (bit_at kinds i) (bit_at more i) (bit_at mask i) was

-- a place in a slot is below that of the next slot
place_small : (word : ℕ) → place_in_slot word < 2 ^ 44
unfolding place_in_slot
place_small word = omega arith

pub slot_behind : (slot other word last : ℕ) → other < slot → order_in other last < order_in slot word
slot_behind slot other word last lt = omega (arith, lt, place_small last)

-- a place behind that of the last one
pub follows_behind : (last : LastKey) (word : ℕ) → last_order last < order_of word → Follows last word (record { slot = slot_of word; word = word; kinds = kind_bit word })
follows_behind last word behind = record {
  new = λ passed. elim passed [
    | inl before ↦ omega (arith, before, behind)
    | inr same ↦ omega (arith, same.0, behind)
  ];
  passed = inr (refl, and_or_self (kind_bit word) 0);
  stay = λ other passed. elim passed [
    | inl before ↦ inl (omega (arith, before, behind))
    | inr same ↦ inl (omega (arith, same.0, behind))
  ];
}

-- the same place, and a kind that is none of those there
pub follows_beside : (last : LastKey) (word : ℕ) → order_of word ≡ last_order last → (bit_and last.kinds (kind_bit word) ≡ kind_bit word → ⊥)
    → Follows last word (record { slot = last.slot; word = last.word; kinds = bit_or last.kinds (kind_bit word) })
follows_beside last word same new = record {
  new = λ passed. elim passed [
    | inl before ↦ omega (arith, before, same)
    | inr there ↦ new there.1
  ];
  passed = inr (same, and_or_self (kind_bit word) last.kinds);
  stay = λ other passed. elim passed [
    | inl before ↦ inl before
    | inr there ↦ inr (there.0, mask_stays last.kinds (kind_bit word) (kind_bit other) there.1)
  ];
}

-- ---- one word more

all_more : (w : ℕ) (ws : List ℕ) (word : ℕ) → AllByRecursion (λ other. (w == other) ≡ false) ws → (w ≡ word → ⊥) → AllByRecursion (λ other. (w == other) ≡ false) (ws ++ word ∷ [])
all_more w [] word all differs = (ne_eqb w word differs, tt)
all_more w (x ∷ xs) word all differs = (all.0, all_more w xs word all.1 differs)

differs_from : (word : ℕ) (words : List ℕ) → (Contains words word → ⊥) → IsDistinct ◌==◌ words → IsDistinct ◌==◌ (words ++ word ∷ [])
unfolding IsDistinct
differs_from word [] none distinct = (tt, tt)
differs_from word (w ∷ ws) none distinct = (
  all_more w ws word distinct.0 (λ e. none (subst (λ (x : ℕ). Contains (x ∷ ws) word) (sym e) (contains_first word ws))),
  differs_from word ws (λ there. none (Contains-append_right (w ∷ []) ws word there)) distinct.1,
)

pub rising_more : (last next : LastKey) (words : List ℕ) (word : ℕ) → AreRising last words → Follows last word next → AreRising next (words ++ word ∷ [])
rising_more last next words word are follows = record {
  distinct = differs_from word words (λ there. follows.new (are.passed word there)) are.distinct;
  passed = λ other there. elim (Contains-append_cases words (word ∷ []) other there) [
    | inl before ↦ follows.stay other (are.passed other before)
    | inr one ↦ subst (λ (x : ℕ). IsPassed next x) (contains_one other word one) follows.passed
  ];
}

pub rising_none : (last : LastKey) → AreRising last []
unfolding IsDistinct
rising_none last = record { distinct = tt; passed = λ word there. absurd (contains_nothing word there) }
