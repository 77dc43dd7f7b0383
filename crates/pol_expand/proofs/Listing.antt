-- The sets of the attributes' types say what values expand to.
use Rattle.std.proofs.Common.{◌≡◌, inl, inr, ℕ, zero, suc, ◌+◌, ◌-◌, ◌<◌, ◌≤◌, true, false, List, [], ◌∷◌, length, map, Result, Ok, Err, IfOk, refl, sym, ap, ◌∙◌, arith}
use Rattle.std.specs.Prelude.{slice_index_or}
use Rattle.std.specs.List.{filter, range_with_len}
use Rattle.std.proofs.lemmas.Bool.{cases_Bool}
use Rattle.std.proofs.lemmas.List.{get_or_read, get_or-map, length-map}
use Rattle.std.proofs.lemmas.List.Elements.{All-contains}
use Rattle.std.proofs.lemmas.List.FromFn.{get_or-map-range_with_len}
use Rattle.pol_bitmap.specs.declared.node.Node.{Node}
use Rattle.pol_bitmap.specs.Nodes.{bits_of, has_bit}
use Rattle.pol_bitmap.specs.Sets.{ShareBit}
use Rattle.pol_bitmap.proofs.BitLists.{bits-from_has_bit}
use Rattle.pol_expand.specs.Expansion.{expansion, expand_by, expand_all, expansion_of, HaveRows}
use Rattle.pol_expand.specs.Inner.Inverting.{has_attribute, AreLists, listed, listed_all, IsInversion}

pub listed_at : (attributes : List Node) (sets : List (List Node)) (value : ℕ) → 1 ≤ value → value ≤ length sets → expansion_of (listed_all attributes sets) value ≡ listed attributes sets value
unfolding listed_all
listed_at attributes sets value low high = get_or-map-range_with_len (listed attributes sets) 1 (length sets) (value - 1) value [] (omega arith) (omega arith)

-- an attribute's set is what it expands to
pub attribute_listed : (attributes : List Node) (sets : List (List Node)) (value place : ℕ) (set : List Node) → has_bit attributes value ≡ true → place + 1 ≡ value → place < length sets → set ≡ slice_index_or sets place set → bits_of set ≡ listed attributes sets value
attribute_listed attributes sets value place set e at lt is =
    let k : place ≡ value - 1 = omega arith in
    rw e (ap bits_of (get_or_read sets place set lt is [] ∙ ap (λ (k : ℕ). slice_index_or sets k []) k))

-- a set that is shared has the bits that it had
pub shared_bits : {E : Type 0} (r : Result (List Node) E) (set : List Node) (bits : List ℕ) → IfOk r (λ s. s ≡ set) → bits_of set ≡ bits → IfOk r (λ s. bits_of s ≡ bits)
shared_bits (Ok s) set bits same is = ap bits_of same ∙ is
shared_bits (Err e) set bits same is = tt

pub type_listed : (attributes : List Node) (sets : List (List Node)) (value : ℕ) → has_bit attributes value ≡ false → value ∷ [] ≡ listed attributes sets value
type_listed attributes sets value e = rw e refl

-- the same place of a value, twice
back : (value : ℕ) → 1 ≤ value → value - 1 + 1 ≡ value
back value low = omega arith

list_is : (rows : List (List Node)) (attributes types : List Node) (sets : List (List Node)) (value : ℕ) → AreLists rows attributes types (map bits_of sets) → 1 ≤ value → value ≤ length sets → has_bit attributes value ≡ true
    → bits_of (slice_index_or sets (value - 1) []) ≡ filter (has_attribute rows types (value - 1)) (range_with_len 1 (length rows))
list_is rows attributes types sets value h low high e =
    sym (get_or-map bits_of sets (value - 1) [] [] (omega arith))
    ∙ h.each (value - 1) (omega (arith, length-map sets bits_of)) (ap (has_bit attributes) (back value low) ∙ e)

expands : (rows : List (List Node)) (attributes types : List Node) (sets : List (List Node)) (value : ℕ) → AreLists rows attributes types (map bits_of sets) → 1 ≤ value → value ≤ length sets → listed attributes sets value ≡ expand_by rows attributes types value
unfolding expansion
expands rows attributes types sets value h low high = elim (cases_Bool (has_bit attributes value)) [
  | inl is ↦ rw is (list_is rows attributes types sets value h low high is)
  | inr not ↦ rw not refl
]

map_agrees : (f g : ℕ → List ℕ) (a n : ℕ) → ((x : ℕ) → a ≤ x → x < a + n → f x ≡ g x) → map f (range_with_len a n) ≡ map g (range_with_len a n)
map_agrees f g a zero h = refl
map_agrees f g a (suc n) h =
    let first : f a ≡ g a = h a (omega arith) (omega arith) in
    let rest : map f (range_with_len (a + 1) n) ≡ map g (range_with_len (a + 1) n) = map_agrees f g (a + 1) n (λ x low high. h x (omega arith) (omega arith)) in
    ap (λ (x : List ℕ). x ∷ map f (range_with_len (a + 1) n)) first ∙ ap (λ (xs : List (List ℕ)). g a ∷ xs) rest

-- there is a set for each row
pub sets_count : (rows : List (List Node)) (attributes types : List Node) (sets : List (List Node)) → AreLists rows attributes types (map bits_of sets) → length sets ≡ length rows
sets_count rows attributes types sets h = sym (length-map sets bits_of) ∙ h.count

pub listed_is_expanded : (rows : List (List Node)) (attributes types : List Node) (sets : List (List Node)) → AreLists rows attributes types (map bits_of sets) → listed_all attributes sets ≡ expand_all rows attributes types
unfolding listed_all expand_all
listed_is_expanded rows attributes types sets h =
    map_agrees (listed attributes sets) (expand_by rows attributes types) 1 (length sets) (λ x low high. expands rows attributes types sets x h low (omega arith))
    ∙ ap (λ (n : ℕ). map (expand_by rows attributes types) (range_with_len 1 n)) (sets_count rows attributes types sets h)

pub inversion_of : (rows : List (List Node)) (attributes types : List Node) (sets : List (List Node)) → length rows ≤ 65535 → HaveRows rows attributes → HaveRows rows types → (ShareBit (bits_of attributes) (bits_of types) → ⊥) → AreLists rows attributes types (map bits_of sets) → IsInversion sets attributes types
inversion_of rows attributes types sets few left right apart h =
    let count = sets_count rows attributes types sets h in
    record {
      few = omega (arith, count);
      declared = λ value d. elim d [
        | inl a ↦ let within = All-contains (λ (v : ℕ). (1 ≤ v) × (v ≤ length rows)) (bits_of attributes) value left a in (within.0, omega (arith, count, within.1))
        | inr t ↦ let within = All-contains (λ (v : ℕ). (1 ≤ v) × (v ≤ length rows)) (bits_of types) value right t in (within.0, omega (arith, count, within.1))
      ];
      apart = λ value a t. apart (record { bit = value; left = bits-from_has_bit attributes value a; right = bits-from_has_bit types value t });
    }

pub expanded_at : (rows : List (List Node)) (attributes types : List Node) (value : ℕ) → 1 ≤ value → value ≤ length rows → expansion_of (expand_all rows attributes types) value ≡ expand_by rows attributes types value
unfolding expand_all
expanded_at rows attributes types value low high = get_or-map-range_with_len (expand_by rows attributes types) 1 (length rows) (value - 1) value [] (omega arith) (omega arith)
