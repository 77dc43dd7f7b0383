-- The map of a policy expands its values as the policy does.
use Rattle.std.proofs.Common.{◌≡◌, ℕ, ◌+◌, ◌-◌, ◌<◌, ◌≤◌, Bool, true, List, [], ◌∷◌, ◌++◌, ◌&&◌, Option, Some, None, Result, Ok, Err, IfOk, inl, inr, length, map, slice_get, refl, sym, ap, subst, ◌∙◌, arith}
use Rattle.std.specs.Prelude.{option_map}
use Rattle.std.specs.List.{All, Contains, filter, range_with_len}
use Rattle.std.specs.List.Sorted.{IsStrictlyIncreasing}
use Rattle.std.proofs.lemmas.Option.{none-some, same_Some, get_or_from_slice_get}
use Rattle.std.proofs.lemmas.List.Elements.{All-filter, All-weaker, All-head, All-tail, All-contains}
use Rattle.std.proofs.lemmas.List.FromFn.{length-map-range_with_len, map-range_with_len_more, get_or-map-range_with_len}
use Rattle.pol_cursor.specs.References.{Placed}
use Rattle.pol_bitmap.specs.declared.Node.{Node}
use Rattle.pol_bitmap.specs.Nodes.{bits_of, has_bit}
use Rattle.pol_bitmap.specs.Sets.{ShareBit}
use Rattle.pol_bitmap.proofs.BitLists.{has_bit-from_bits, bits-from_has_bit}
use Rattle.pol_bitmap.proofs.Elements.{kept, keeps, range_holds, contains_range}
use Rattle.pol_datums.specs.declared.Flavour.{Flavour}
use Rattle.pol_datums.specs.declared.Flavour.TheVariants.{Plain, Attribute}
use Rattle.pol_symbols.specs.declared.symbols.Symbols.{Symbols}
use Rattle.pol_symbols.specs.PolicySymbols.{flavour_in}
use Rattle.pol_file.specs.declared.parts.Parts.{Parts}
use Rattle.pol_file.specs.TypeValues.{IsTypeValue}
use Rattle.pol_expand.specs.Expansion.{Expansions, IsDeclared, IsNumberOfBits, HaveRows, expansion, expand_all, expansion_of, row_of}
use Rattle.pol_expand.specs.Flavours.{is_flavour}
use Rattle.pol_expand.specs.PolicyMap.{IsPolicyMap, row_found, row_in, rows_of, has_flavour, values_of_flavour, expand}
use Rattle.pol_expand.proofs.Listing.{expanded_at}
use Rattle.pol_expand.proofs.Values.{same_tests, filter_rises}

-- ---- rows

pub rows_length : (parts : Parts) → length (rows_of parts) ≡ parts.symbols.types.nprim
unfolding rows_of
rows_length parts = length-map-range_with_len (row_in parts) 1 parts.symbols.types.nprim

row_got : (o : Option (Placed (List Node))) (row : List Node) → option_map (λ row. row.value) o ≡ Some row → row_found o ≡ row
row_got None row e = absurd (none-some row e)
row_got (Some r) row e = same_Some r.value row e

-- one row more
pub row_added : (parts : Parts) (i : ℕ) (had has : List (List Node)) (row : List Node) → had ≡ map (row_in parts) (range_with_len 1 i) → option_map (λ row. row.value) (slice_get parts.labels.type_rows (i + 1 - 1)) ≡ Some row
    → has ≡ had ++ row ∷ [] → has ≡ map (row_in parts) (range_with_len 1 (i + 1))
row_added parts i had has row so_far got added =
    added ∙ ap (λ (rows : List (List Node)). rows ++ row ∷ []) so_far
    ∙ ap (λ (r : List Node). map (row_in parts) (range_with_len 1 i) ++ r ∷ []) (sym (row_got (slice_get parts.labels.type_rows (i + 1 - 1)) row got))
    ∙ sym (map-range_with_len_more (row_in parts) 1 i (i + 1) (omega arith))

-- ---- values

pub flavour_rises : (symbols : Symbols) (flavour : Flavour) → IsStrictlyIncreasing (values_of_flavour symbols flavour)
unfolding values_of_flavour
flavour_rises symbols flavour = filter_rises (has_flavour symbols flavour) 1 symbols.types.nprim

range_within : (n : ℕ) → All (λ v. (1 ≤ v) × (v ≤ n)) (range_with_len 1 n)
range_within n = All-weaker (λ v. (1 ≤ v) × (v < 1 + n)) (λ v. (1 ≤ v) × (v ≤ n)) (λ v w. (w.0, omega (arith, w.1))) (range_with_len 1 n) (range_holds 1 n)

pub have_rows : (parts : Parts) (rows : List (List Node)) (values : List Node) (flavour : Flavour) → rows ≡ rows_of parts → bits_of values ≡ values_of_flavour parts.symbols flavour → HaveRows rows values
unfolding values_of_flavour
have_rows parts rows values flavour are is =
    rw (is, are, rows_length parts) (All-filter (has_flavour parts.symbols flavour) (λ v. (1 ≤ v) × (v ≤ parts.symbols.types.nprim)) (range_with_len 1 parts.symbols.types.nprim) (range_within parts.symbols.types.nprim))

one_flavour : (declared : Option Flavour) → is_flavour Attribute declared ≡ true → is_flavour Plain declared ≡ true → ⊥
one_flavour None a p = absurd cc
one_flavour (Some Plain) a p = absurd cc
one_flavour (Some Attribute) a p = absurd cc

pub flavours_apart : (symbols : Symbols) (attributes types : List Node) → bits_of attributes ≡ values_of_flavour symbols Attribute → bits_of types ≡ values_of_flavour symbols Plain → ShareBit (bits_of attributes) (bits_of types) → ⊥
unfolding values_of_flavour
flavours_apart symbols attributes types are_attributes are_types share =
    let values = range_with_len 1 symbols.types.nprim in
    one_flavour _ (kept (has_flavour symbols Attribute) values share.bit (subst (λ (bits : List ℕ). Contains bits share.bit) are_attributes share.left)).1
    (kept (has_flavour symbols Plain) values share.bit (subst (λ (bits : List ℕ). Contains bits share.bit) are_types share.right)).1

-- a value of a flavour is one of all values
value_within : (symbols : Symbols) (flavour : Flavour) (value : ℕ) → Contains (values_of_flavour symbols flavour) value → (1 ≤ value) × (value ≤ symbols.types.nprim)
unfolding values_of_flavour
value_within symbols flavour value there =
    All-contains (λ v. (1 ≤ v) × (v ≤ symbols.types.nprim)) (range_with_len 1 symbols.types.nprim) value (range_within symbols.types.nprim) (kept (has_flavour symbols flavour) (range_with_len 1 symbols.types.nprim) value there).0

-- a set of the values of a flavour has those that are declared so
has_flavoured : (symbols : Symbols) (flavour : Flavour) (set : List Node) (value : ℕ) → bits_of set ≡ values_of_flavour symbols flavour → 1 ≤ value → value ≤ symbols.types.nprim → has_bit set value ≡ has_flavour symbols flavour value
unfolding values_of_flavour
has_flavoured symbols flavour set value is least most =
    let values = range_with_len 1 symbols.types.nprim in
    same_tests (has_bit set value) (has_flavour symbols flavour value)
    (λ t. (kept (has_flavour symbols flavour) values value (subst (λ (bits : List ℕ). Contains bits value) is (bits-from_has_bit set value t))).1)
    (λ t. has_bit-from_bits set value (subst (λ (bits : List ℕ). Contains bits value) (sym is) (keeps (has_flavour symbols flavour) values value (contains_range 1 symbols.types.nprim value least (omega arith)) t)))

-- ---- expansion

-- tests that agree at each element keep the same
agree : (p q : ℕ → Bool) (xs : List ℕ) → All (λ x. p x ≡ q x) xs → filter p xs ≡ filter q xs
agree p q [] h = refl
agree p q (x ∷ xs) h = rw (All-head (λ (x : ℕ). p x ≡ q x) x xs h, agree p q xs (All-tail (λ (x : ℕ). p x ≡ q x) x xs h)) refl

expansions_agree : (attribute attribute' type type' : ℕ → Bool) (row row' : ℕ → List Node) (n value : ℕ) → attribute value ≡ attribute' value
    → ((t : ℕ) → 1 ≤ t → t ≤ n → (type t ≡ type' t) × (row t ≡ row' t)) → expansion attribute type row n value ≡ expansion attribute' type' row' n value
unfolding expansion
expansions_agree attribute attribute' type type' row row' n value is each =
    rw (
      is,
      agree (λ t. type t && has_bit (row t) (value - 1)) (λ t. type' t && has_bit (row' t) (value - 1)) (range_with_len 1 n)
          (All-weaker (λ (t : ℕ). (1 ≤ t) × (t ≤ n)) (λ t. (type t && has_bit (row t) (value - 1)) ≡ (type' t && has_bit (row' t) (value - 1))) (λ t w. let e = each t w.0 w.1 in rw (e.0, e.1) refl) (range_with_len 1 n) (range_within n)),
    ) refl

row_at : (parts : Parts) (value : ℕ) → 1 ≤ value → value ≤ parts.symbols.types.nprim → row_of (rows_of parts) value ≡ row_in parts value
unfolding rows_of
row_at parts value least most = get_or-map-range_with_len (row_in parts) 1 parts.symbols.types.nprim (value - 1) value [] (omega (arith, least, most)) (omega (arith, least))

-- the rows and the sets of a policy expand a value as the policy does
expands_to : (parts : Parts) (attributes types : List Node) (value : ℕ) → bits_of attributes ≡ values_of_flavour parts.symbols Attribute → bits_of types ≡ values_of_flavour parts.symbols Plain
    → 1 ≤ value → value ≤ parts.symbols.types.nprim → expansion_of (expand_all (rows_of parts) attributes types) value ≡ expand parts value
unfolding expand
expands_to parts attributes types value are_attributes are_types least most =
    let count = rows_length parts in
    expanded_at (rows_of parts) attributes types value least (omega (arith, most, count))
    ∙ ap (λ (n : ℕ). expansion (has_bit attributes) (has_bit types) (row_of (rows_of parts)) n value) count
    ∙ expansions_agree (has_bit attributes) (has_flavour parts.symbols Attribute) (has_bit types) (has_flavour parts.symbols Plain) (row_of (rows_of parts)) (row_in parts) parts.symbols.types.nprim value
    (has_flavoured parts.symbols Attribute attributes value are_attributes least most)
    (λ t low high. (has_flavoured parts.symbols Plain types t are_types low high, row_at parts t low high))

declared_within : (symbols : Symbols) (attributes types : List Node) (value : ℕ) → bits_of attributes ≡ values_of_flavour symbols Attribute → bits_of types ≡ values_of_flavour symbols Plain → IsDeclared attributes types value
    → (1 ≤ value) × (value ≤ symbols.types.nprim)
declared_within symbols attributes types value are_attributes are_types declared = elim declared [
  | inl a ↦ value_within symbols Attribute value (subst (λ (bits : List ℕ). Contains bits value) are_attributes a)
  | inr t ↦ value_within symbols Plain value (subst (λ (bits : List ℕ). Contains bits value) are_types t)
]

-- ---- the map

pub policy_map : (parts : Parts) (rows : List (List Node)) (attributes types : List Node) (m : Expansions) → rows ≡ rows_of parts → bits_of attributes ≡ values_of_flavour parts.symbols Attribute → bits_of types ≡ values_of_flavour parts.symbols Plain
    → m ≡ record { expansions = expand_all rows attributes types; attributes = attributes; types = types; sets = []; kept = 0 } → IsPolicyMap parts m
policy_map parts rows attributes types m are are_attributes are_types is = rw (is, are) (record {
  attributes = are_attributes;
  types = are_types;
  expands = λ value declared.
      let within = declared_within parts.symbols attributes types value are_attributes are_types declared in
      expands_to parts attributes types value are_attributes are_types within.0 within.1;
})

pub built_map : {E : Type 0} (parts : Parts) (rows : List (List Node)) (attributes types : List Node) (r : Result Expansions E) → rows ≡ rows_of parts → bits_of attributes ≡ values_of_flavour parts.symbols Attribute → bits_of types ≡ values_of_flavour parts.symbols Plain
    → IfOk r (λ m. m ≡ record { expansions = expand_all rows attributes types; attributes = attributes; types = types; sets = []; kept = 0 }) → IfOk r (IsPolicyMap parts)
built_map parts rows attributes types (Ok m) are are_attributes are_types is = policy_map parts rows attributes types m are are_attributes are_types is
built_map parts rows attributes types (Err e) are are_attributes are_types is = tt

-- a type value that a record of the policy declares is declared in its map
pub declared_in : (parts : Parts) (m : Expansions) (value : ℕ) (flavour : Flavour) → IsPolicyMap parts m → IsTypeValue parts.symbols value → flavour_in parts.symbols value ≡ Some flavour → IsDeclared m.attributes m.types value
unfolding values_of_flavour
declared_in parts m value Attribute is within e =
    let values = range_with_len 1 parts.symbols.types.nprim in
    inl (subst (λ (bits : List ℕ). Contains bits value) (sym is.attributes) (keeps (has_flavour parts.symbols Attribute) values value (contains_range 1 parts.symbols.types.nprim value within.0 (omega (arith, within.1))) (ap (is_flavour Attribute) e)))
declared_in parts m value Plain is within e =
    let values = range_with_len 1 parts.symbols.types.nprim in
    inr (subst (λ (bits : List ℕ). Contains bits value) (sym is.types) (keeps (has_flavour parts.symbols Plain) values value (contains_range 1 parts.symbols.types.nprim value within.0 (omega (arith, within.1))) (ap (is_flavour Plain) e)))

-- the set of its number has what the value expands to
pub members_are : (parts : Parts) (old : Expansions) (sets : List (List Node)) (value number : ℕ) (set : List Node) → IsPolicyMap parts old → IsDeclared old.attributes old.types value
    → IsNumberOfBits old.sets sets (expansion_of old.expansions value) number → slice_get sets number ≡ Some set → bits_of set ≡ expand parts value
members_are parts old sets value number set is declared numbered got =
    ap bits_of (sym (get_or_from_slice_get sets number set [] got)) ∙ numbered.right ∙ is.expands value declared
