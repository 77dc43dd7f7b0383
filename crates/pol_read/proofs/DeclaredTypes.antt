-- The value of a type that is declared is a type value, and it is declared as an attribute or as none.
use Rattle.std.proofs.Common.{◌≡◌, ℕ, Bool, true, false, cond, Option, Some, None, Ok, List, [], ◌∷◌, All, refl, subst}
use Rattle.std.specs.Prelude.{◌==◌, ◌%◌, ◌||◌, ◌&&◌, is_some, option_map, if◌then◌else◌}
use Rattle.std.specs.List.{find}
use Rattle.std.proofs.lemmas.Bool.{eqb-true}
use Rattle.std.proofs.lemmas.List.Elements.{All-head, All-tail}
use Rattle.pol_cursor.specs.References.{Placed}
use Rattle.pol_fields.specs.declared.TableKind.TheVariants.{Types}
use Rattle.pol_symtab.specs.SymbolTables.{declares, primary_name}
use Rattle.pol_datums.specs.declared.TypeRec.{TypeRec}
use Rattle.pol_datums.specs.declared.Flavour.TheVariants.{Attribute, Plain}
use Rattle.pol_datums.specs.TypeRecord.{is_attribute, is_primary_type}
use Rattle.pol_symbols.specs.PolicySymbols.{flavour_in}
use Rattle.pol_symbols.specs.declared.Symbols.{Symbols}
use Rattle.pol_file.specs.declared.Parts.{Parts}
use Rattle.pol_file.specs.Acceptance.{accept}
use Rattle.pol_file.specs.TypeValues.{IsTypeValue}
use Rattle.pol_file.proofs.Acceptances.{accepted_has_type_values}
use Rattle.pol_read.specs.DeclaredRules.{IsDeclaredIn}

both : (a b : Bool) → (a && b) ≡ true → (a ≡ true) × (b ≡ true)
both true b e = (refl, e)
both false b e = absurd cc

-- what a search found passes, and what is true of all items is true of it
found : {A : Type 0} (P : A → Type 0) (p : A → Bool) (xs : List A) (x : A) → All P xs → find p xs ≡ Some x → (p x ≡ true) × P x
found P p [] x all e = absurd cc
found {A} P p (y ∷ ys) x all e = go (λ e. found P p ys x (All-tail P y ys all) e) (p y) refl e
  where
    same : (y x : A) → Some y ≡ Some x → y ≡ x
    same y x e = cc

    go : (find p ys ≡ Some x → (p x ≡ true) × P x) → (b : Bool) → p y ≡ b → cond b (Some y) (find p ys) ≡ Some x → (p x ≡ true) × P x
    go later true is e = (subst (λ (z : A). p z ≡ true) (same y x e) is, subst P (same y x e) (All-head P y ys all))
    go later false is e = later e

there_is : {A B : Type 0} (f : A → B) (o : Option A) → is_some (option_map f o) ≡ true → (x : A) × (o ≡ Some x)
there_is f None e = absurd cc
there_is f (Some x) e = (x, refl)

module _ (symbols : Symbols) (value : ℕ) (declared : IsDeclaredIn symbols Types value) where
  primary : (t : Placed TypeRec) × (find (declares (λ (t : TypeRec). is_primary_type t.properties) (λ (t : TypeRec). t.value) value) symbols.types.records ≡ Some t)
  unfolding primary_name
  primary = there_is (λ (r : Placed TypeRec). r.value.name) (find (declares (λ (t : TypeRec). is_primary_type t.properties) (λ (t : TypeRec). t.value) value) symbols.types.records) declared

  flavour_is : (plain attribute : Bool) → (plain || attribute) ≡ true → is_some (if attribute then Some Attribute else (if plain then Some Plain else None)) ≡ true
  flavour_is plain true e = refl
  flavour_is true false e = refl
  flavour_is false false e = absurd cc

  -- it is declared as an attribute or as none
  pub declared_type_has_flavour : is_some (flavour_in symbols value) ≡ true
  declared_type_has_flavour =
      let t = primary.0 in
      let is = found (λ (t : Placed TypeRec). Unit {0}) (declares (λ (t : TypeRec). is_primary_type t.properties) (λ (t : TypeRec). t.value) value) symbols.types.records t (λ k d lt. tt) primary.1 in
      rw primary.1 (flavour_is (t.value.properties % 2 == 1) (is_attribute t.value.properties) (both _ _ is.0).0)

-- it is 1 up to the number of type values
pub declared_type_is_value : (bytes : List ℕ) (policy : Parts) (value : ℕ) → accept bytes ≡ Ok policy → IsDeclaredIn policy.symbols Types value → IsTypeValue policy.symbols value
declared_type_is_value bytes policy value accepted declared =
    let has = accepted_has_type_values bytes policy accepted in
    let t = primary policy.symbols value declared in
    let is = found (λ (t : Placed TypeRec). IsTypeValue policy.symbols t.value.value) _ policy.symbols.types.records t.0 has.within t.1 in
    subst (λ (n : ℕ). IsTypeValue policy.symbols n) (eqb-true _ _ (both _ _ is.0).1) is.1
