-- The ends of rules are declared types or attributes, where their kinds are between types.
use Rattle.std.proofs.Common.{◌≡◌, ℕ, ◌+◌, ◌<◌, Bool, true, false, cond, List, [], ◌∷◌, ◌++◌, Option, Some, None, length, slice_get, refl, sym, ap, subst, ◌∙◌}
use Rattle.std.specs.Prelude.{◌==◌, ◌||◌, ◌%◌, is_some, option_map, if◌then◌else◌}
use Rattle.std.specs.List.{All, find}
use Rattle.std.proofs.lemmas.Bool.{false≢true, eqb-true, and_parts}
use Rattle.std.proofs.lemmas.List.Elements.{All-head, All-tail}
use Rattle.std.proofs.lemmas.Option.{none-some, same_Some, slice_get_within}
use Rattle.pol_cursor.specs.References.{Placed}
use Rattle.pol_fields.specs.declared.TableKind.{TableKind}
use Rattle.pol_fields.specs.declared.TableKind.TheVariants.{Types}
use Rattle.pol_symtab.specs.SymbolTables.{declares, primary_name}
use Rattle.pol_datums.specs.declared.TypeRec.{TypeRec}
use Rattle.pol_datums.specs.declared.Flavour.TheVariants.{Plain, Attribute}
use Rattle.pol_datums.specs.TypeRecord.{is_primary_type, is_attribute, flavour_of}
use Rattle.pol_symbols.specs.PolicySymbols.{flavour_found}
use Rattle.pol_file.specs.declared.Parts.{Parts}
use Rattle.pol_file.specs.TypeValues.{IsTypeValue, HasTypeValues}
use Rattle.pol_read.specs.declared.RuleKind.{RuleKind}
use Rattle.pol_read.specs.declared.RuleKind.TheVariants.{RoleAllow, RoleTransition}
use Rattle.pol_read.specs.StoredRules.{StoredRule, stored_rules}
use Rattle.pol_read.specs.RuleKinds.{source_table, target_table}
use Rattle.pol_read.specs.DeclaredRules.{IsDeclaredRule, IsDeclaredIn}
use Rattle.pol_expand.specs.JoinedTypes.{passes, rule_passes, has_type_ends, is_between_types}
use Rattle.pol_expand.specs.Inner.StoredEnds.{IsEnd}

-- ---- a declared value

found_passes : {X : Type 0} (p : X → Bool) (xs : List X) (P : X → Type 0) (x : X) → All P xs → find p xs ≡ Some x → (p x ≡ true) × P x
found_passes p [] P x all e = absurd (none-some x e)
found_passes {X} p (y ∷ ys) P x all e = go (p y) refl e (found_passes p ys P x (All-tail P y ys all))
  where
    go : (b : Bool) → p y ≡ b → cond b (Some y) (find p ys) ≡ Some x → (find p ys ≡ Some x → (p x ≡ true) × P x) → (p x ≡ true) × P x
    go true t f later = subst (λ (z : X). (p z ≡ true) × P z) (same_Some y x f) (t, All-head P y ys all)
    go false t f later = later f

primary_has_flavour : (properties : ℕ) → is_primary_type properties ≡ true → is_some (flavour_of properties) ≡ true
primary_has_flavour properties e = go (properties % 2 == 1) (is_attribute properties) e
  where
    go : (odd attribute : Bool) → (odd || attribute) ≡ true → is_some (if attribute then Some Attribute else (if odd then Some Plain else None)) ≡ true
    go odd true e = refl
    go true false e = refl
    go false false e = e

type_named : (o : Option (Placed TypeRec)) → is_some (option_map (λ r. r.value.name) o) ≡ true → (r : Placed TypeRec) × (o ≡ Some r)
type_named None e = absurd (false≢true e)
type_named (Some r) e = (r, refl)

pub is_end : (policy : Parts) (value : ℕ) → HasTypeValues policy → IsDeclaredIn policy.symbols Types value → IsEnd policy value
unfolding primary_name
is_end policy value has declared =
    let p = declares (λ t. is_primary_type t.properties) (λ t. t.value) value in
    let records = policy.symbols.types.records in
    let found = type_named (find p records) declared in
    let facts = found_passes p records (λ t. IsTypeValue policy.symbols t.value.value) found.0 has.within found.1 in
    let parts = and_parts (is_primary_type found.0.value.properties) (found.0.value.value == value) facts.0 in record {
      within = subst (λ (v : ℕ). IsTypeValue policy.symbols v) (eqb-true found.0.value.value value parts.1) facts.1;
      declared = ap (λ (o : Option (Placed TypeRec)). is_some (flavour_found o)) found.1 ∙ primary_has_flavour found.0.value.properties parts.0;
    }

-- ---- the rule of a number

source_is_type : (kind : RuleKind) → has_type_ends kind ≡ true → source_table kind ≡ Types
source_is_type RoleAllow e = absurd (false≢true e)
source_is_type RoleTransition e = absurd (false≢true e)
source_is_type other e = refl

target_is_type : (kind : RuleKind) → has_type_ends kind ≡ true → target_table kind ≡ Types
target_is_type RoleAllow e = absurd (false≢true e)
target_is_type RoleTransition e = refl
target_is_type other e = refl

pub passes_within : (policy : Parts) (test : StoredRule → Bool) (number : ℕ) → rule_passes policy test number ≡ true → number < length (stored_rules policy)
passes_within policy test number e = go (slice_get (stored_rules policy) number) refl e
  where
    go : (o : Option StoredRule) → slice_get (stored_rules policy) number ≡ o → passes test o ≡ true → number < length (stored_rules policy)
    go None at t = absurd (false≢true t)
    go (Some rule) at t = slice_get_within (stored_rules policy) number rule at

pub type_ends : (policy : Parts) (number : ℕ) (rule : StoredRule) → is_between_types policy number ≡ true → slice_get (stored_rules policy) number ≡ Some rule → has_type_ends rule.kind ≡ true
type_ends policy number rule e at = ap (passes (λ (r : StoredRule). has_type_ends r.kind)) (sym at) ∙ e

pub source_is_end : (policy : Parts) (rule : StoredRule) → HasTypeValues policy → has_type_ends rule.kind ≡ true → IsDeclaredRule policy rule → IsEnd policy rule.source
source_is_end policy rule has types declared = is_end policy rule.source has (subst (λ (table : TableKind). IsDeclaredIn policy.symbols table rule.source) (source_is_type rule.kind types) declared.source)

pub target_is_end : (policy : Parts) (rule : StoredRule) → HasTypeValues policy → has_type_ends rule.kind ≡ true → IsDeclaredRule policy rule → IsEnd policy rule.target
target_is_end policy rule has types declared = is_end policy rule.target has (subst (λ (table : TableKind). IsDeclaredIn policy.symbols table rule.target) (target_is_type rule.kind types) declared.target)
