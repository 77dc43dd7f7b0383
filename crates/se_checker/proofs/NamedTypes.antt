-- The types that names expand to, name by name.
use Rattle.std.proofs.Common.{◌≡◌, ℕ, ◌+◌, ◌<◌, ◌≤◌, Bool, true, false, ◌||◌, inl, inr, Option, Some, None, Result, Ok, IfOk, List, [], ◌∷◌, refl, sym, ap, subst, ◌∙◌, cond, arith}
use Rattle.std.specs.Prelude.{is_some, option_map}
use Rattle.std.specs.List.{All, find}
use Rattle.std.proofs.lemmas.Bool.{cases_Bool, eqb-true, or_cases, or_left, false≢true}
use Rattle.std.proofs.lemmas.List.Elements.{All-cons, All-head, All-tail}
use Rattle.pol_cursor.specs.References.{Placed}
use Rattle.pol_cursor.proofs.BitPlaces.{or_nothing}
use Rattle.pol_bitmap.specs.declared.Node.{Node}
use Rattle.pol_bitmap.specs.Nodes.{bits_of}
use Rattle.pol_bitmap.specs.Sets.{IsSet}
use Rattle.pol_fields.specs.declared.TableKind.TheVariants.{Types}
use Rattle.pol_datums.specs.declared.Flavour.{Flavour}
use Rattle.pol_datums.specs.declared.Flavour.TheVariants.{Attribute}
use Rattle.pol_datums.specs.declared.TypeRec.{TypeRec}
use Rattle.pol_symtab.specs.SymbolTables.{has_the_name, value_named}
use Rattle.pol_symbols.specs.PolicySymbols.{flavour_in, value_in}
use Rattle.pol_file.specs.declared.Parts.{Parts}
use Rattle.pol_file.specs.Acceptance.{accept}
use Rattle.pol_file.specs.TypeValues.{IsTypeValue}
use Rattle.pol_file.proofs.Acceptances.{accepted_has_type_values}
use Rattle.pol_expand.specs.Flavours.{is_flavour}
use Rattle.pol_expand.specs.Inner.StoredEnds.{IsEnd}
use Rattle.pol_expand.specs.JoinedTypes.{holds_type}
use Rattle.pol_expand.specs.PolicyMap.{has_flavour}
use Rattle.pol_expand.proofs.Holders.{held_within, holds_itself, passing_set}
use Rattle.value_groups.specs.Among.{is_among}
use Rattle.se_checker.specs.Members.{is_member, members, value_holds}

-- ---- the value of a name

found_within : (P : Placed TypeRec → Type 0) (p : Placed TypeRec → Bool) (xs : List (Placed TypeRec)) (x : Placed TypeRec) → All P xs → find p xs ≡ Some x → P x
found_within P p [] x all e = absurd cc
found_within P p (y ∷ ys) x all e = go (λ e. found_within P p ys x (All-tail P y ys all) e) (p y) e
  where
    same : (y x : Placed TypeRec) → Some y ≡ Some x → y ≡ x
    same y x e = cc

    go : (find p ys ≡ Some x → P x) → (b : Bool) → cond b (Some y) (find p ys) ≡ Some x → P x
    go later true e = subst P (same y x e) (All-head P y ys all)
    go later false e = later e

value_found : (P : ℕ → Type 0) (o : Option (Placed TypeRec)) (value : ℕ) → ((t : Placed TypeRec) → o ≡ Some t → P t.value.value) → option_map (λ (t : Placed TypeRec). t.value.value) o ≡ Some value → P value
value_found P None value h e = absurd cc
value_found P (Some t) value h e = let same : t.value.value ≡ value = cc in subst P same (h t refl)

-- it stands within the table of types
pub named_is_value : (bytes : List ℕ) (policy : Parts) (name : List ℕ) (value : ℕ) → accept bytes ≡ Ok policy → value_in policy.symbols Types name ≡ Some value → IsTypeValue policy.symbols value
unfolding value_named
named_is_value bytes policy name value accepted e =
    let has = accepted_has_type_values bytes policy accepted in
    value_found (IsTypeValue policy.symbols) (find (has_the_name (λ (t : TypeRec). t.name) name) policy.symbols.types.records) value (λ t found. found_within (λ (t : Placed TypeRec). IsTypeValue policy.symbols t.value.value) _ policy.symbols.types.records t has.within found) e

attribute_is_some : (o : Option Flavour) → is_flavour Attribute o ≡ true → is_some o ≡ true
attribute_is_some None e = absurd (false≢true e)
attribute_is_some (Some f) e = refl

-- the value of an attribute is the end of a rule, as far as the table goes
pub attribute_is_end : (policy : Parts) (value : ℕ) → IsTypeValue policy.symbols value → has_flavour policy.symbols Attribute value ≡ true → IsEnd policy value
attribute_is_end policy value within is = record { within = within; declared = attribute_is_some (flavour_in policy.symbols value) is }

-- what it expands to stands within the table too
holds_within : (policy : Parts) (value type : ℕ) → IsTypeValue policy.symbols value → holds_type policy value type ≡ true → (1 ≤ type) × (type < 1 + policy.symbols.types.nprim)
holds_within policy value type within holds = elim (cases_Bool (has_flavour policy.symbols Attribute value)) [
  | inl attribute ↦ held_within policy (value ∷ []) type (All-cons (IsEnd policy) value [] (attribute_is_end policy value within attribute) nothing) (or_left _ _ holds)
  | inr other ↦ let same : value ≡ type = eqb-true value type (holds_itself policy value type other ∙ holds) in (omega (arith, within.0, same), omega (arith, within.1, same))
]
  where
    nothing : All (IsEnd policy) []
    nothing k d lt = absurd (omega (arith, lt))

value_within : (bytes : List ℕ) (policy : Parts) (name : List ℕ) (found : Option ℕ) (type : ℕ) → accept bytes ≡ Ok policy → value_in policy.symbols Types name ≡ found → value_holds policy found type ≡ true → (1 ≤ type) × (type < 1 + policy.symbols.types.nprim)
value_within bytes policy name None type accepted is holds = absurd (false≢true holds)
value_within bytes policy name (Some value) type accepted is holds = holds_within policy value type (named_is_value bytes policy name value accepted is) holds

member_within : (bytes : List ℕ) (policy : Parts) (names : List (List ℕ)) (type : ℕ) → accept bytes ≡ Ok policy → is_member policy names type ≡ true → (1 ≤ type) × (type < 1 + policy.symbols.types.nprim)
member_within bytes policy [] type accepted is = absurd (false≢true is)
member_within bytes policy (name ∷ names) type accepted is = elim (or_cases (value_holds policy (value_in policy.symbols Types name) type) (is_member policy names type) is) [
  | inl here ↦ value_within bytes policy name (value_in policy.symbols Types name) type accepted refl here
  | inr later ↦ member_within bytes policy names type accepted later
]

-- ---- name by name

-- the types of the first names are found, and those of the names that are left are not
abbrev pub Finding : Parts → List (List ℕ) → List (List ℕ) → List ℕ → Type 0
Finding policy all left found = (type : ℕ) → (is_among found type || is_member policy left type) ≡ is_member policy all type

pub all_found : {E : Type 0} (bytes : List ℕ) (policy : Parts) (all left : List (List ℕ)) (found : List ℕ) (result : Result (List Node) E) → accept bytes ≡ Ok policy → left ≡ [] → Finding policy all left found → IfOk result IsSet → IfOk result (λ set. bits_of set ≡ found) → IfOk result (λ set. bits_of set ≡ members policy all)
unfolding members
all_found bytes policy all left found result accepted is finding form bits =
    passing_set result (is_member policy all) policy.symbols.types.nprim found form bits
    (λ type. sym (or_nothing (is_among found type)) ∙ ap (λ (names : List (List ℕ)). is_among found type || is_member policy names type) (sym is) ∙ finding type)
    (λ type member. member_within bytes policy all type accepted member)
