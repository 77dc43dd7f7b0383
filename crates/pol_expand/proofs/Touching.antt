-- The declared values whose expansion shares a type with given ones.
use Rattle.std.proofs.Common.{◌≡◌, ◌↔◌, inl, inr, ℕ, Bool, true, false, List, [], ◌∷◌, sym, ap, subst, ◌∙◌, Result, Ok, Err, IfOk}
use Rattle.std.specs.Prelude.{IsTrue}
use Rattle.std.specs.List.{Contains, filter, list_any}
use Rattle.std.proofs.lemmas.Bool.{and_from, and_parts, or_cases, or_left, or_right, false_from_ne_true}
use Rattle.std.proofs.lemmas.List.Elements.{All-contains, Contains-append_right, Contains-append_cases, filter_passes}
use Rattle.pol_bitmap.specs.declared.node.Node.{Node}
use Rattle.pol_bitmap.specs.Nodes.{bits_of, has_bit}
use Rattle.pol_bitmap.specs.Sets.{ShareBit, IsCommon, IsUnion}
use Rattle.pol_bitmap.proofs.BitLists.{bits-from_has_bit, has_bit-from_bits}
use Rattle.pol_bitmap.proofs.Elements.{contains_nothing, contains_one, contains_first, keeps}
use Rattle.pol_expand.specs.Expansion.{expansion_of, IsDeclared, IsTouching}
use Rattle.pol_expand.specs.Inner.Inverting.{listed_all, touches, IsInversion}
use Rattle.pol_expand.proofs.Listing.{listed_at, type_listed}
use Rattle.pol_expand.proofs.Values.{same_tests}

-- ---- some value of a set

share_from_any : (xs : List ℕ) (given : List Node) → list_any (has_bit given) xs ≡ true → ShareBit xs (bits_of given)
share_from_any [] given e = absurd cc
share_from_any (x ∷ xs) given e = elim (or_cases (has_bit given x) (list_any (has_bit given) xs) e) [
  | inl here ↦ record { bit = x; left = contains_first x xs; right = bits-from_has_bit given x here }
  | inr there ↦ let s = share_from_any xs given there in record { bit = s.bit; left = Contains-append_right (x ∷ []) xs s.bit s.left; right = s.right }
]

any_from_bit : (xs : List ℕ) (given : List Node) (bit : ℕ) → Contains xs bit → has_bit given bit ≡ true → list_any (has_bit given) xs ≡ true
any_from_bit [] given bit h e = absurd (contains_nothing bit h)
any_from_bit (x ∷ xs) given bit h e = elim (Contains-append_cases (x ∷ []) xs bit h) [
  | inl one ↦ or_left (has_bit given x) (list_any (has_bit given) xs) (ap (has_bit given) (contains_one bit x one) ∙ e)
  | inr rest ↦ or_right (has_bit given x) (list_any (has_bit given) xs) (any_from_bit xs given bit rest e)
]

any_from_share : (xs : List ℕ) (given : List Node) → ShareBit xs (bits_of given) → list_any (has_bit given) xs ≡ true
any_from_share xs given s = any_from_bit xs given s.bit s.left (has_bit-from_bits given s.bit s.right)

-- whether a set meets the given one, by a test of its bits
pub meets_is : (r : Bool) (xs : List ℕ) (given : List Node) → IsTrue r ↔ ShareBit xs (bits_of given) → r ≡ list_any (has_bit given) xs
meets_is r xs given h = same_tests r (list_any (has_bit given) xs) (λ t. any_from_share xs given (h.0 t)) (λ t. h.1 (share_from_any xs given t))

-- ---- types and attributes

-- a type expands to itself
type_expands : (sets : List (List Node)) (attributes types : List Node) (value : ℕ) → IsInversion sets attributes types → Contains (bits_of types) value → expansion_of (listed_all attributes sets) value ≡ value ∷ []
type_expands sets attributes types value h t =
    let within = h.declared value (inr t) in
    let not : has_bit attributes value ≡ false = false_from_ne_true (has_bit attributes value) (λ a. h.apart value a (has_bit-from_bits types value t)) in
    listed_at attributes sets value within.0 within.1 ∙ sym (type_listed attributes sets value not)

pub touching_is : (sets : List (List Node)) (attributes types given own rest all : List Node) → IsInversion sets attributes types
    → IsCommon (bits_of types) (bits_of given) (bits_of own)
    → ((value : ℕ) → Contains (bits_of rest) value ↔ Contains (filter (touches (listed_all attributes sets) attributes given) (bits_of attributes)) value)
    → IsUnion (bits_of own) (bits_of rest) (bits_of all)
    → IsTouching (listed_all attributes sets) attributes types given (bits_of all)
touching_is sets attributes types given own rest all h common e union = record { each = λ value. (to value, from value) }
  where
    to : (value : ℕ) → Contains (bits_of all) value → IsDeclared attributes types value × ShareBit (expansion_of (listed_all attributes sets) value) (bits_of given)
    to value m = elim ((union.each value).0 m) [
      | inl one ↦ let both = (common.each value).0 one in
          (inr both.0, subst (λ (xs : List ℕ). ShareBit xs (bits_of given)) (sym (type_expands sets attributes types value h both.0)) (record { bit = value; left = contains_first value []; right = both.1 }))
      | inr one ↦
          let there : Contains (filter (touches (listed_all attributes sets) attributes given) (bits_of attributes)) value = (e value).0 one in
          let test : touches (listed_all attributes sets) attributes given value ≡ true = All-contains (λ (v : ℕ). touches (listed_all attributes sets) attributes given v ≡ true) _ value (filter_passes (touches (listed_all attributes sets) attributes given) (bits_of attributes)) there in
          let both = and_parts (has_bit attributes value) (list_any (has_bit given) (expansion_of (listed_all attributes sets) value)) test in
          (inl (bits-from_has_bit attributes value both.0), share_from_any (expansion_of (listed_all attributes sets) value) given both.1)
    ]

    from : (value : ℕ) → IsDeclared attributes types value × ShareBit (expansion_of (listed_all attributes sets) value) (bits_of given) → Contains (bits_of all) value
    from value both = elim both.0 [
      | inl a ↦
          let test : touches (listed_all attributes sets) attributes given value ≡ true = and_from (has_bit attributes value) _ (has_bit-from_bits attributes value a) (any_from_share (expansion_of (listed_all attributes sets) value) given both.1) in
          let there = keeps (touches (listed_all attributes sets) attributes given) (bits_of attributes) value a test in
          (union.each value).1 (inr ((e value).1 there))
      | inr t ↦
          let s : ShareBit (value ∷ []) (bits_of given) = subst (λ (xs : List ℕ). ShareBit xs (bits_of given)) (type_expands sets attributes types value h t) both.1 in
          let same : value ≡ s.bit = contains_one s.bit value s.left in
          (union.each value).1 (inl ((common.each value).1 (t, subst (Contains (bits_of given)) (sym same) s.right)))
    ]

-- the same of the answer of a union
pub touching_of : {E : Type 0} (sets : List (List Node)) (attributes types given own rest : List Node) (r : Result (List Node) E) → IsInversion sets attributes types
    → IsCommon (bits_of types) (bits_of given) (bits_of own)
    → ((value : ℕ) → Contains (bits_of rest) value ↔ Contains (filter (touches (listed_all attributes sets) attributes given) (bits_of attributes)) value)
    → IfOk r (λ all. IsUnion (bits_of own) (bits_of rest) (bits_of all))
    → IfOk r (λ all. IsTouching (listed_all attributes sets) attributes types given (bits_of all))
touching_of sets attributes types given own rest (Ok all) h common e union = touching_is sets attributes types given own rest all h common e union
touching_of sets attributes types given own rest (Err f) h common e union = tt
