-- The types and attributes that expand to a type are the type itself and the attributes of its row.
use Rattle.std.proofs.Common.{◌≡◌, ℕ, ◌+◌, ◌-◌, ◌<◌, ◌≤◌, Bool, true, false, List, [], ◌∷◌, Option, Some, None, Result, Ok, Err, IfOk, get_or, refl, sym, ap, subst, ◌∙◌, inl, inr, arith}
use Rattle.std.specs.Prelude.{◌==◌, ◌&&◌, ◌||◌, length, nat_le, nat_lt, is_some, option_map, slice_index}
use Rattle.std.specs.List.{All, Contains, filter, list_any, range_with_len}
use Rattle.std.proofs.lemmas.Bool.{false≢true, cases_Bool, eq-eqb, eqb-true, and_parts, and_from, or_cases, or_left, or_right, le-leb, lt-ltb, cond-true, cond-false}
use Rattle.pol_cursor.specs.References.{Placed}
use Rattle.pol_bitmap.specs.declared.Node.{Node}
use Rattle.pol_bitmap.specs.Nodes.{bits_of, has_bit}
use Rattle.pol_bitmap.specs.Sets.{IsSet}
use Rattle.pol_bitmap.proofs.BitLists.{has_bit-from_bits, bits-from_has_bit}
use Rattle.pol_bitmap.proofs.Elements.{kept, keeps, range_holds, contains_range, contains_first, contains_one}
use Rattle.std.proofs.lemmas.List.Elements.{All-contains, All-from_get_or, All-get_or, All-same, All-filter, All-cons, All-nil, Contains-get_or}
use Rattle.pol_symtab.proofs.Searches.{not_true}
use Rattle.pol_datums.specs.declared.Flavour.{Flavour}
use Rattle.pol_datums.specs.declared.Flavour.TheVariants.{Plain, Attribute}
use Rattle.pol_symbols.specs.PolicySymbols.{flavour_in}
use Rattle.pol_file.specs.declared.Parts.{Parts}
use Rattle.pol_expand.specs.Expansion.{Expansions, IsDeclared, IsTouching, expansion, expansion_of}
use Rattle.pol_expand.specs.Flavours.{is_flavour}
use Rattle.pol_expand.specs.PolicyMap.{IsPolicyMap, has_flavour, row_found, row_in, expand, values_of_flavour}
use Rattle.pol_expand.proofs.PolicyMaps.{declared_in}
use Rattle.pol_expand.proofs.Values.{same_tests}
use Rattle.value_groups.specs.Among.{is_among}
use Rattle.value_groups.specs.Inner.Marking.{with_value}
use Rattle.value_groups.proofs.Words.{among_bits, nodes_pass}
use Rattle.pol_expand.specs.JoinedTypes.{holds_type}
use Rattle.pol_expand.specs.Inner.StoredEnds.{IsEnd, holds_any, is_attribute_bit}
use Rattle.pol_expand.specs.PlainTypes.{is_type_value}
use Rattle.value_groups.proofs.Anys.{any_gives, any_from, among_contains, contains_among, or_false}
use Rattle.pol_expand.proofs.TypesOutside.{type_parts}

-- what a value is, where it is not an attribute
plain_end : (declared : Option Flavour) → is_some declared ≡ true → is_flavour Attribute declared ≡ false → is_flavour Plain declared ≡ true
plain_end None s a = absurd (false≢true s)
plain_end (Some Plain) s a = refl
plain_end (Some Attribute) s a = absurd (false≢true (sym a))

plain_is_no_attribute : (declared : Option Flavour) → is_flavour Plain declared ≡ true → is_flavour Attribute declared ≡ true → ⊥
plain_is_no_attribute None p a = false≢true p
plain_is_no_attribute (Some Plain) p a = false≢true a
plain_is_no_attribute (Some Attribute) p a = false≢true p

-- the end that a type is, or that its row has
abbrev pub is_holder : Parts → (ℕ → Bool) → ℕ → ℕ → Bool
is_holder policy had node value = is_type_value policy node && ((node == value) || list_any (is_attribute_bit policy had value) (bits_of (row_in policy node)))

within_range : (n x : ℕ) → Contains (range_with_len 1 n) x → (1 ≤ x) × (x ≤ n)
within_range n x h = let w = All-contains (λ b. (1 ≤ b) × (b < 1 + n)) (range_with_len 1 n) x (range_holds 1 n) h in (w.0, omega (arith, w.1))

of_attribute : (policy : Parts) (value : ℕ) → has_flavour policy.symbols Attribute value ≡ true → expand policy value ≡ filter (λ type. has_flavour policy.symbols Plain type && has_bit (row_in policy type) (value - 1)) (range_with_len 1 policy.symbols.types.nprim)
unfolding expand expansion
of_attribute policy value e = cond-true (has_flavour policy.symbols Attribute value) _ (value ∷ []) e

of_type : (policy : Parts) (value : ℕ) → has_flavour policy.symbols Attribute value ≡ false → expand policy value ≡ value ∷ []
unfolding expand expansion
of_type policy value e = cond-false (has_flavour policy.symbols Attribute value) _ (value ∷ []) e

is_type_of : (policy : Parts) (node : ℕ) → 1 ≤ node → node ≤ policy.symbols.types.nprim → has_flavour policy.symbols Plain node ≡ true → is_type_value policy node ≡ true
is_type_of policy node least most plain =
    and_from (nat_le 1 node && nat_le node policy.symbols.types.nprim) (has_flavour policy.symbols Plain node) (and_from (nat_le 1 node) (nat_le node policy.symbols.types.nprim) (le-leb 1 node least) (le-leb node policy.symbols.types.nprim most)) plain

-- a bit of an attribute's value
bit_parts : (policy : Parts) (had : ℕ → Bool) (value bit : ℕ) → is_attribute_bit policy had value bit ≡ true → (has_flavour policy.symbols Attribute value ≡ true) × (bit ≡ value - 1)
bit_parts policy had value bit e =
    let outer = and_parts (nat_lt bit policy.symbols.types.nprim && had (bit + 1) && has_flavour policy.symbols Attribute (bit + 1)) (bit + 1 == value) e in
    let inner = and_parts (nat_lt bit policy.symbols.types.nprim && had (bit + 1)) (has_flavour policy.symbols Attribute (bit + 1)) outer.0 in
    let same : bit + 1 ≡ value = eqb-true (bit + 1) value outer.1 in
    (subst (λ (v : ℕ). has_flavour policy.symbols Attribute v ≡ true) same inner.1, omega (arith, same))

bit_is : (policy : Parts) (had : ℕ → Bool) (value : ℕ) → 1 ≤ value → value ≤ policy.symbols.types.nprim → had value ≡ true → has_flavour policy.symbols Attribute value ≡ true → is_attribute_bit policy had value (value - 1) ≡ true
bit_is policy had value least most places e =
    let same : value - 1 + 1 ≡ value = omega (arith, least) in
    and_from (nat_lt (value - 1) policy.symbols.types.nprim && had (value - 1 + 1) && has_flavour policy.symbols Attribute (value - 1 + 1)) (value - 1 + 1 == value)
    (and_from (nat_lt (value - 1) policy.symbols.types.nprim && had (value - 1 + 1)) (has_flavour policy.symbols Attribute (value - 1 + 1))
    (and_from (nat_lt (value - 1) policy.symbols.types.nprim) (had (value - 1 + 1)) (lt-ltb (value - 1) policy.symbols.types.nprim (omega (arith, least, most)))
    (subst (λ (v : ℕ). had v ≡ true) (sym same) places))
    (subst (λ (v : ℕ). has_flavour policy.symbols Attribute v ≡ true) (sym same) e))
    (eq-eqb (value - 1 + 1) value same)

-- a type or an attribute expands to a type exactly where it is such an end
pub holder_is : (policy : Parts) (had : ℕ → Bool) (node value : ℕ) → IsEnd policy value → had value ≡ true → is_holder policy had node value ≡ holds_type policy value node
unfolding holds_type
holder_is policy had node value is places = same_tests (is_holder policy had node value) (is_among (expand policy value) node) there back
  where
    there : is_holder policy had node value ≡ true → is_among (expand policy value) node ≡ true
    there e =
        let outer = and_parts (is_type_value policy node) ((node == value) || list_any (is_attribute_bit policy had value) (bits_of (row_in policy node))) e in
        let type = type_parts policy node outer.0 in
        elim (or_cases (node == value) (list_any (is_attribute_bit policy had value) (bits_of (row_in policy node))) outer.1) [
          | inl same ↦
              let s : node ≡ value = eqb-true node value same in
              let plain : has_flavour policy.symbols Plain value ≡ true = subst (λ (v : ℕ). has_flavour policy.symbols Plain v ≡ true) s type.2 in
              let none : has_flavour policy.symbols Attribute value ≡ false = not_true (has_flavour policy.symbols Attribute value) (plain_is_no_attribute (flavour_in policy.symbols value) plain) in
              ap (λ (xs : List ℕ). is_among xs node) (of_type policy value none) ∙ contains_among (value ∷ []) node (subst (λ (v : ℕ). Contains (v ∷ []) node) s (contains_first node []))
          | inr bit ↦
              let f = any_gives (is_attribute_bit policy had value) (bits_of (row_in policy node)) bit in
              let parts = bit_parts policy had value f.0 f.2 in
              let there_bit : has_bit (row_in policy node) (value - 1) ≡ true = ap (has_bit (row_in policy node)) (sym parts.1) ∙ has_bit-from_bits (row_in policy node) f.0 f.1 in
              ap (λ (xs : List ℕ). is_among xs node) (of_attribute policy value parts.0)
              ∙ contains_among _ node (keeps (λ type. has_flavour policy.symbols Plain type && has_bit (row_in policy type) (value - 1)) (range_with_len 1 policy.symbols.types.nprim) node
              (contains_range 1 policy.symbols.types.nprim node type.0 (omega (arith, type.1))) (and_from (has_flavour policy.symbols Plain node) (has_bit (row_in policy node) (value - 1)) type.2 there_bit))
        ]

    back : is_among (expand policy value) node ≡ true → is_holder policy had node value ≡ true
    back e = elim (cases_Bool (has_flavour policy.symbols Attribute value)) [
      | inl a ↦
          let h = kept (λ type. has_flavour policy.symbols Plain type && has_bit (row_in policy type) (value - 1)) (range_with_len 1 policy.symbols.types.nprim) node
          (among_contains _ node (ap (λ (xs : List ℕ). is_among xs node) (sym (of_attribute policy value a)) ∙ e)) in
          let range = within_range policy.symbols.types.nprim node h.0 in
          let parts = and_parts (has_flavour policy.symbols Plain node) (has_bit (row_in policy node) (value - 1)) h.1 in
          let bit = any_from (is_attribute_bit policy had value) (bits_of (row_in policy node)) (value - 1) (bits-from_has_bit (row_in policy node) (value - 1) parts.1) (bit_is policy had value is.within.0 is.within.1 places a) in
          and_from (is_type_value policy node) ((node == value) || list_any (is_attribute_bit policy had value) (bits_of (row_in policy node))) (is_type_of policy node range.0 range.1 parts.0)
          (or_right (node == value) (list_any (is_attribute_bit policy had value) (bits_of (row_in policy node))) bit)
      | inr none ↦
          let one = among_contains (value ∷ []) node (ap (λ (xs : List ℕ). is_among xs node) (sym (of_type policy value none)) ∙ e) in
          let s : value ≡ node = contains_one node value one in
          let plain : has_flavour policy.symbols Plain node ≡ true = subst (λ (v : ℕ). has_flavour policy.symbols Plain v ≡ true) s (plain_end (flavour_in policy.symbols value) is.declared none) in
          and_from (is_type_value policy node) ((node == value) || list_any (is_attribute_bit policy had value) (bits_of (row_in policy node)))
          (is_type_of policy node (omega (arith, s, is.within.0)) (omega (arith, s, is.within.1)) plain)
          (or_left (node == value) (list_any (is_attribute_bit policy had value) (bits_of (row_in policy node))) (eq-eqb node value (sym s)))
    ]

-- no type is held where a value is none
pub held_by_none : (policy : Parts) (had : ℕ → Bool) (node value : ℕ) → IsEnd policy value → had value ≡ true → is_type_value policy node ≡ false → false ≡ holds_type policy value node
held_by_none policy had node value is places none = sym (ap (λ (b : Bool). b && ((node == value) || list_any (is_attribute_bit policy had value) (bits_of (row_in policy node)))) none) ∙ holder_is policy had node value is places

-- the ends of a type: itself, and what its row adds
pub held_by_ends : (policy : Parts) (had : ℕ → Bool) (node value : ℕ) (first values : List ℕ) → IsEnd policy value → had value ≡ true → is_type_value policy node ≡ true → first ≡ with_value [] node
    → is_among values value ≡ (is_among first value || list_any (is_attribute_bit policy had value) (bits_of (row_in policy node))) → is_among values value ≡ holds_type policy value node
held_by_ends policy had node value first values is places type one grown =
    grown
    ∙ ap (λ (xs : List ℕ). is_among xs value || list_any (is_attribute_bit policy had value) (bits_of (row_in policy node))) one
    ∙ ap (λ (b : Bool). b || list_any (is_attribute_bit policy had value) (bits_of (row_in policy node))) (or_false (node == value))
    ∙ sym (ap (λ (b : Bool). b && ((node == value) || list_any (is_attribute_bit policy had value) (bits_of (row_in policy node)))) type)
    ∙ holder_is policy had node value is places

-- ---- what an end expands to

flavour_some : (o : Option Flavour) → is_some o ≡ true → (f : Flavour) × (o ≡ Some f)
flavour_some None e = absurd (false≢true e)
flavour_some (Some f) e = (f, refl)

pub end_declared : (policy : Parts) (m : Expansions) (value : ℕ) → IsPolicyMap policy m → IsEnd policy value → IsDeclared m.attributes m.types value
end_declared policy m value map is = let f = flavour_some (flavour_in policy.symbols value) is.declared in declared_in policy m value f.0 map is.within f.1

pub expands_within : (policy : Parts) (value : ℕ) → IsEnd policy value → All (λ type. (1 ≤ type) × (type < 1 + policy.symbols.types.nprim)) (expand policy value)
expands_within policy value is =
    let P = λ (type : ℕ). (1 ≤ type) × (type < 1 + policy.symbols.types.nprim) in
    elim (cases_Bool (has_flavour policy.symbols Attribute value)) [
      | inl a ↦
          let p = λ (type : ℕ). has_flavour policy.symbols Plain type && has_bit (row_in policy type) (value - 1) in
          let range = range_with_len 1 policy.symbols.types.nprim in
          All-same P (expand policy value) (filter p range) (of_attribute policy value a) (All-filter p P range (range_holds 1 policy.symbols.types.nprim))
      | inr none ↦ All-same P (expand policy value) (value ∷ []) (of_type policy value none) (All-cons P value [] (is.within.0, omega (arith, is.within.1)) (All-nil P))
    ]

-- ---- whether an end expands to a type

-- the row of a type value, as it is found
pub row_is : (found : Option (Placed (List Node))) (row : List Node) → option_map (λ row. row.value) found ≡ Some row → row_found found ≡ row
row_is None row h = absurd cc
row_is (Some r) row h = cc

-- an attribute expands to the types whose rows have its bit
pub holds_attribute : (policy : Parts) (end value : ℕ) → has_flavour policy.symbols Attribute end ≡ true → (is_type_value policy value && has_bit (row_in policy value) (end - 1)) ≡ holds_type policy end value
unfolding holds_type
holds_attribute policy end value attribute =
    let n = policy.symbols.types.nprim in
    let plain = has_flavour policy.symbols Plain value in
    let has = has_bit (row_in policy value) (end - 1) in
    let test : ℕ → Bool = λ type. has_flavour policy.symbols Plain type && has_bit (row_in policy type) (end - 1) in
    let types = filter test (range_with_len 1 n) in
    same_tests (is_type_value policy value && has) (is_among types value)
    (λ h. (let parts = and_parts (is_type_value policy value) has h in
    let type = type_parts policy value parts.0 in
    contains_among types value (keeps test (range_with_len 1 n) value (contains_range 1 n value type.0 (omega (arith, type.1))) (and_from plain has type.2 parts.1))))
    (λ h. (let there = kept test (range_with_len 1 n) value (among_contains types value h) in
    let passes = and_parts plain has there.1 in
    let range = within_range n value there.0 in
    and_from (is_type_value policy value) has (is_type_of policy value range.0 range.1 passes.0) passes.1))
    ∙ ap (λ (xs : List ℕ). is_among xs value) (sym (of_attribute policy end attribute))

-- any other end expands to itself
pub holds_itself : (policy : Parts) (end value : ℕ) → has_flavour policy.symbols Attribute end ≡ false → (end == value) ≡ holds_type policy end value
unfolding holds_type
holds_itself policy end value plain = sym (ap (λ (xs : List ℕ). is_among xs value) (of_type policy end plain) ∙ or_false (end == value))

pub held_among : (policy : Parts) (value type : ℕ) (bits : List ℕ) → bits ≡ expand policy value → is_among bits type ≡ holds_type policy value type
unfolding holds_type
held_among policy value type bits e = ap (λ (xs : List ℕ). is_among xs type) e

-- a type expands to itself
pub held_alone : (policy : Parts) (value type : ℕ) → is_type_value policy value ≡ true → (value == type) ≡ holds_type policy value type
held_alone policy value type is =
    holds_itself policy value type (not_true (has_flavour policy.symbols Attribute value) (plain_is_no_attribute (flavour_in policy.symbols value) (type_parts policy value is).2))

-- what some ends expand to is within the policy's types
pub held_within : (policy : Parts) (ends : List ℕ) (type : ℕ) → All (IsEnd policy) ends → list_any (λ end. holds_type policy end type) ends ≡ true → (1 ≤ type) × (type < 1 + policy.symbols.types.nprim)
unfolding holds_type
held_within policy ends type are e =
    let f = any_gives (λ end. is_among (expand policy end) type) ends e in
    All-contains (λ type. (1 ≤ type) × (type < 1 + policy.symbols.types.nprim)) (expand policy f.0) type (expands_within policy f.0 (All-contains (IsEnd policy) ends f.0 are f.1)) (among_contains (expand policy f.0) type f.2)

-- a set of the values that pass a test
pub passing_set : {E : Type 0} (result : Result (List Node) E) (p : ℕ → Bool) (count : ℕ) (values : List ℕ) → IfOk result IsSet → IfOk result (λ set. bits_of set ≡ values) → ((value : ℕ) → is_among values value ≡ p value)
    → ((value : ℕ) → p value ≡ true → (1 ≤ value) × (value < 1 + count)) → IfOk result (λ set. bits_of set ≡ filter p (range_with_len 1 count))
passing_set (Ok set) p count values form bits each within = nodes_pass p 1 count set form (λ value. sym (among_bits set value) ∙ ap (λ (xs : List ℕ). is_among xs value) bits ∙ each value) within
passing_set (Err e) p count values form bits each within = tt

held_by_one : (policy : Parts) (ends : List ℕ) → length ends ≡ 1 → (type : ℕ) → holds_type policy (slice_index ends 0) type ≡ list_any (λ end. holds_type policy end type) ends
held_by_one policy [] one type = absurd (omega (arith, one))
held_by_one policy (end ∷ []) one type = sym (or_false (holds_type policy end type))
held_by_one policy (end ∷ more ∷ ends) one type = absurd (omega (arith, one))

-- the only end is declared, and what it expands to is what all do
pub one_declared : (policy : Parts) (m : Expansions) (ends : List ℕ) → IsPolicyMap policy m → All (IsEnd policy) ends → length ends ≡ 1 → IsDeclared m.attributes m.types (slice_index ends 0)
one_declared policy m ends map are one = end_declared policy m (slice_index ends 0) map (All-get_or (IsEnd policy) ends 0 0 (omega (arith, one)) are)

pub expands_one : {E : Type 0} (policy : Parts) (m : Expansions) (ends : List ℕ) (result : Result (List Node) E) → IsPolicyMap policy m → All (IsEnd policy) ends → length ends ≡ 1 → IfOk result IsSet → IfOk result (λ set. bits_of set ≡ expansion_of m.expansions (slice_index ends 0))
    → IfOk result (λ set. bits_of set ≡ filter (λ type. list_any (λ end. holds_type policy end type) ends) (range_with_len 1 policy.symbols.types.nprim))
expands_one policy m ends result map are one form bits =
    let end = slice_index ends 0 in
    passing_set result (λ type. list_any (λ end. holds_type policy end type) ends) policy.symbols.types.nprim (expansion_of m.expansions end) form bits
    (λ type. held_among policy end type (expansion_of m.expansions end) (map.expands end (one_declared policy m ends map are one)) ∙ held_by_one policy ends one type)
    (λ type. held_within policy ends type are)

-- ---- the ends of some types

-- what touches some types is within the policy's types
pub touching_within : (policy : Parts) (m : Expansions) (nodes : List Node) (values : List ℕ) → IsPolicyMap policy m → IsTouching m.expansions m.attributes m.types nodes values → All (λ value. value < policy.symbols.types.nprim + 1) values
unfolding values_of_flavour
touching_within policy m nodes values map are = All-from_get_or (λ value. value < policy.symbols.types.nprim + 1) values 0 λ k lt.
    let value = get_or values k 0 in
    let range = range_with_len 1 policy.symbols.types.nprim in
    let in_range : Contains range value = elim ((are.each value).0 (Contains-get_or values k 0 lt)).0 [
      | inl a ↦ (kept (has_flavour policy.symbols Attribute) range value (subst (λ (xs : List ℕ). Contains xs value) map.attributes a)).0
      | inr t ↦ (kept (has_flavour policy.symbols Plain) range value (subst (λ (xs : List ℕ). Contains xs value) map.types t)).0
    ] in
    omega (arith, (within_range policy.symbols.types.nprim value in_range).1)

-- an end expands to one of some types exactly where it touches them
pub touching_holds : (policy : Parts) (m : Expansions) (nodes : List Node) (values : List ℕ) (value : ℕ) → IsPolicyMap policy m → IsTouching m.expansions m.attributes m.types nodes values → IsEnd policy value → is_among values value ≡ holds_any policy (bits_of nodes) value
unfolding holds_type
touching_holds policy m nodes values value map are is =
    let declared = end_declared policy m value map is in
    let expands = map.expands value declared in
    same_tests (is_among values value) (holds_any policy (bits_of nodes) value)
    (λ e.
    let shared = ((are.each value).0 (among_contains values value e)).1 in
    any_from (λ type. is_among (expand policy value) type) (bits_of nodes) shared.bit shared.right (contains_among (expand policy value) shared.bit (subst (λ (xs : List ℕ). Contains xs shared.bit) expands shared.left)))
    (λ e.
    let f = any_gives (λ type. is_among (expand policy value) type) (bits_of nodes) e in
    let left = subst (λ (xs : List ℕ). Contains xs f.0) (sym expands) (among_contains (expand policy value) f.0 f.2) in
    contains_among values value ((are.each value).1 (declared, record { bit = f.0; left = left; right = f.1 })))
