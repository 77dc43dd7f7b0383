-- Types and attributes by the sets of those that expand to what is asked.
use Rattle.std.proofs.Common.{◌≡◌, ℕ, Bool, true, false, Option, Some, None, Result, Ok, Err, IfOk, List, [], ◌∷◌, refl, sym, subst, ◌∙◌, cond}
use Rattle.std.specs.Prelude.{nat_eq, is_some, option_map, Contains, if◌then◌else◌}
use Rattle.std.specs.List.{find, list_any, All}
use Rattle.pol_cursor.specs.References.{Placed}
use Rattle.pol_fields.specs.declared.TableKind.TheVariants.{Types}
use Rattle.pol_bitmap.specs.declared.Node.{Node}
use Rattle.pol_bitmap.specs.Nodes.{bits_of, has_bit}
use Rattle.std.proofs.lemmas.List.Elements.{All-head, All-tail}
use Rattle.pol_bitmap.proofs.BitLists.{has_bit-from_bits, bits-from_has_bit}
use Rattle.pol_datums.specs.declared.Flavour.{Flavour}
use Rattle.pol_symtab.specs.SymbolTables.{has_the_name, value_named}
use Rattle.pol_datums.specs.declared.TypeRec.{TypeRec}
use Rattle.pol_symbols.specs.PolicySymbols.{value_in, flavour_in}
use Rattle.pol_file.specs.declared.Parts.{Parts}
use Rattle.pol_file.specs.Acceptance.{accept}
use Rattle.pol_file.specs.TypeValues.{IsTypeValue}
use Rattle.pol_file.proofs.Acceptances.{accepted_has_type_values}
use Rattle.pol_read.specs.DeclaredRules.{IsDeclaredIn}
use Rattle.pol_read.proofs.DeclaredTypes.{declared_type_has_flavour, declared_type_is_value}
use Rattle.pol_expand.specs.Expansion.{Expansions, IsDeclared, IsTouching, expansion}
use Rattle.pol_expand.specs.PolicyMap.{IsPolicyMap, expand}
use Rattle.pol_expand.proofs.PolicyMaps.{declared_in}
use Rattle.named_values.specs.Found.{is_found}
use Rattle.named_values.proofs.Tests.{any_from_there, there_from_any}
use Rattle.rule_criteria.specs.Modes.{is_pattern}
use Rattle.rule_criteria.specs.declared.Criterion.{Criterion}
use Rattle.rule_query.specs.Ends.{expands_to, shares_with}
use Rattle.rule_query.specs.Inner.LookedUp.{is_asked_name, is_asked_type, is_in_expansion}
use Rattle.rule_tests.proofs.ListTests.{same_tests, any_from, any_to, none_passes}

-- ---- declared types

flavour_there : (o : Option Flavour) → is_some o ≡ true → (flavour : Flavour) × (o ≡ Some flavour)
flavour_there None e = absurd cc
flavour_there (Some flavour) e = (flavour, refl)

-- a declared type is declared in the map of the policy
pub in_map : (bytes : List ℕ) (policy : Parts) (m : Expansions) (value : ℕ) → accept bytes ≡ Ok policy → IsPolicyMap policy m → IsDeclaredIn policy.symbols Types value → IsDeclared m.attributes m.types value
in_map bytes policy m value accepted is declared =
    let flavour = flavour_there (flavour_in policy.symbols value) (declared_type_has_flavour policy.symbols value declared) in
    declared_in policy m value flavour.0 is (declared_type_is_value bytes policy value accepted declared) flavour.1

-- ---- what touches a set of types

module _ (bytes : List ℕ) (policy : Parts) (m : Expansions) (accepted : accept bytes ≡ Ok policy) (is : IsPolicyMap policy m) (asked : ℕ → Bool) (given set : List Node) (same : (value : ℕ) → has_bit given value ≡ asked value) (touch : IsTouching m.expansions m.attributes m.types given (bits_of set)) where
  touched : (value : ℕ) → has_bit set value ≡ true → list_any asked (expand policy value) ≡ true
  touched value e =
      let h = (touch.each value).0 (bits-from_has_bit set value e) in
      any_from asked (expand policy value) h.1.bit (subst (λ (xs : List ℕ). Contains xs h.1.bit) (is.expands value h.0) h.1.left) (sym (same h.1.bit) ∙ has_bit-from_bits given h.1.bit h.1.right)

  touches : (value : ℕ) → IsDeclared m.attributes m.types value → list_any asked (expand policy value) ≡ true → has_bit set value ≡ true
  touches value declared e =
      let p = any_to asked (expand policy value) e in
      has_bit-from_bits set value ((touch.each value).1 (
        declared,
        record {
          bit = p.one;
          left = subst (λ (xs : List ℕ). Contains xs p.one) (sym (is.expands value declared)) p.there;
          right = bits-from_has_bit given p.one (same p.one ∙ p.passes);
        },
      ))

  pub touching_is : (value : ℕ) → IsDeclaredIn policy.symbols Types value → has_bit set value ≡ list_any asked (expand policy value)
  touching_is value declared = same_tests _ _ (touched value) (touches value (in_map bytes policy m value accepted is declared))

-- ---- what is asked

by_cases : (policy : Parts) (found : ℕ → Bool) (b : Bool) (o : Option ℕ) (value : ℕ) → (if b then list_any found (expand policy value) else shares_with policy o value) ≡ list_any (λ type. if b then found type else is_in_expansion policy o type) (expand policy value)
by_cases policy found true o value = refl
by_cases policy found false None value = sym (none_passes (expand policy value))
by_cases policy found false (Some asked) value = refl

pub expands_is : (policy : Parts) (criterion : Criterion) (value : ℕ) → expands_to policy criterion value ≡ list_any (is_asked_type policy criterion) (expand policy value)
expands_is policy criterion value = by_cases policy (is_found policy.symbols Types criterion.text) (is_pattern criterion.mode) (value_in policy.symbols Types criterion.text) value

-- the set that touches what is asked
pub set_expands : {E : Type 0} (bytes : List ℕ) (policy : Parts) (m : Expansions) (criterion : Criterion) (given : List Node) (r : Result (List Node) E) → accept bytes ≡ Ok policy → IsPolicyMap policy m
    → ((value : ℕ) → has_bit given value ≡ is_asked_type policy criterion value) → IfOk r (λ set. IsTouching m.expansions m.attributes m.types given (bits_of set))
    → IfOk r (λ set. (value : ℕ) → IsDeclaredIn policy.symbols Types value → has_bit set value ≡ expands_to policy criterion value)
set_expands bytes policy m criterion given (Ok set) accepted is same touch = λ value declared. touching_is bytes policy m accepted is (is_asked_type policy criterion) given set same touch value declared ∙ sym (expands_is policy criterion value)
set_expands bytes policy m criterion given (Err e) accepted is same touch = tt

-- ---- the value of a name

found_within : (P : Placed TypeRec → Type 0) (p : Placed TypeRec → Bool) (xs : List (Placed TypeRec)) (x : Placed TypeRec) → All P xs → find p xs ≡ Some x → P x
found_within P p [] x all e = absurd cc
found_within P p (y ∷ ys) x all e = go (λ e. found_within P p ys x (All-tail P y ys all) e) (p y) e
  where
    same : (y x : Placed TypeRec) → Some y ≡ Some x → y ≡ x
    same y x e = cc

    go : (find p ys ≡ Some x → P x) → (b : Bool) → cond b (Some y) (find p ys) ≡ Some x → P x
    go later true e = subst P (same y x e) (All-head P y ys all)
    go later false e = later e

value_found : (P : ℕ → Type 0) (o : Option (Placed TypeRec)) (value : ℕ) → ((t : Placed TypeRec) → o ≡ Some t → P t.value.value) → option_map (λ (t : Placed TypeRec). t.value.value) o ≡ Some value → P value
value_found P None value h e = absurd cc
value_found P (Some t) value h e = let same : t.value.value ≡ value = cc in subst P same (h t refl)

pub named_is_value : (bytes : List ℕ) (policy : Parts) (name : List ℕ) (value : ℕ) → accept bytes ≡ Ok policy → value_in policy.symbols Types name ≡ Some value → IsTypeValue policy.symbols value
unfolding value_named
named_is_value bytes policy name value accepted e =
    let has = accepted_has_type_values bytes policy accepted in
    value_found (IsTypeValue policy.symbols) (find (has_the_name (λ (t : TypeRec). t.name) name) policy.symbols.types.records) value (λ t found. found_within (λ (t : Placed TypeRec). IsTypeValue policy.symbols t.value.value) _ policy.symbols.types.records t has.within found) e

-- ---- what a value expands to, as a set

pub bits_same : {E : Type 0} (r : Result (List Node) E) (xs ys : List ℕ) → IfOk r (λ set. bits_of set ≡ xs) → xs ≡ ys → IfOk r (λ set. bits_of set ≡ ys)
bits_same (Ok set) xs ys h e = h ∙ e
bits_same (Err x) xs ys h e = tt

pub undeclared_expands : (policy : Parts) (value : ℕ) → flavour_in policy.symbols value ≡ None → expand policy value ≡ value ∷ []
unfolding expand expansion
undeclared_expands policy value e = rw e refl

set_bits : (set : List Node) (xs : List ℕ) → bits_of set ≡ xs → (value : ℕ) → has_bit set value ≡ list_any (nat_eq value) xs
set_bits set xs is value = same_tests _ _
    (λ e. any_from_there value xs (subst (λ (l : List ℕ). Contains l value) is (bits-from_has_bit set value e)))
    (λ e. has_bit-from_bits set value (subst (λ (l : List ℕ). Contains l value) (sym is) (there_from_any value xs e)))

pub expansion_asked : {E : Type 0} (policy : Parts) (name : List ℕ) (value : ℕ) (r : Result (List Node) E) → value_in policy.symbols Types name ≡ Some value → IfOk r (λ set. bits_of set ≡ expand policy value) → IfOk r (λ set. (v : ℕ) → has_bit set v ≡ is_asked_name policy name v)
expansion_asked policy name value (Err x) e h = tt
expansion_asked policy name value (Ok set) e h = λ v. rw e (set_bits set (expand policy value) h v)

pub nothing_asked : {E : Type 0} (policy : Parts) (name : List ℕ) (r : Result (List Node) E) → value_in policy.symbols Types name ≡ None → IfOk r (λ set. bits_of set ≡ []) → IfOk r (λ set. (v : ℕ) → has_bit set v ≡ is_asked_name policy name v)
nothing_asked policy name (Err x) e h = tt
nothing_asked policy name (Ok set) e h = λ v. rw e (set_bits set [] h v)
