-- The value of each type record of a policy is declared by a primary record, and fits.
use Rattle.std.proofs.Common.{◌≡◌, ℕ, ◌<◌, ◌≤◌, ◌^◌, Bool, true, false, Option, None, Some, Ok, List, [], ◌∷◌, ◌++◌, map, get_or, refl, sym, subst, ◌∙◌, ◌+◌, arith}
use Rattle.std.specs.Prelude.{is_some, if◌then◌else◌}
use Rattle.std.specs.List.{All, Contains, flat_map, list_any}
use Rattle.std.proofs.lemmas.Bool.{and_from, and_parts, eq-eqb, eqb-true, lt-ltb}
use Rattle.std.proofs.lemmas.List.Elements.{All-contains, All-map, Contains-get_or}
use Rattle.pol_bitmap.proofs.Elements.{contains_nothing}
use Rattle.pol_fields.specs.declared.Fault.{Fault}
use Rattle.pol_fields.specs.declared.TableKind.TheVariants.{Types}
use Rattle.pol_fields.specs.declared.fields.TheConstants.{TYPE_VALUE, TYPE_BOUNDS}
use Rattle.pol_cursor.specs.References.{Placed, Reference, Named, dangling_of, references_in, values_of}
use Rattle.pol_cursor.proofs.DanglingLists.{dangling_none, undeclared_first}
use Rattle.pol_datums.specs.declared.TypeRec.{TypeRec}
use Rattle.pol_datums.specs.RoleRecord.{role_references}
use Rattle.pol_datums.specs.TypeRecord.{is_primary_type, type_references}
use Rattle.pol_datums.specs.SymbolReferences.{alias_reference, bounds_reference}
use Rattle.pol_datums.specs.SensitivityRecord.{sensitivity_references}
use Rattle.pol_datums.specs.CategoryRecord.{category_references}
use Rattle.pol_symbols.specs.UserRecord.{user_references}
use Rattle.pol_symbols.specs.PolicySymbols.{name_in}
use Rattle.pol_convert.proofs.Members.{any_from, any_gives}
use Rattle.pol_file.specs.declared.Parts.{Parts}
use Rattle.pol_file.specs.PolicyReferences.{label_references, rule_references, symbol_references}
use Rattle.pol_file.specs.Acceptance.{accept}
use Rattle.pol_file.proofs.Acceptances.{accepted_has_type_values, accepted_is_declared}
use Rattle.pol_read.specs.DeclaredRules.{IsDeclaredIn}
use Rattle.pol_read.proofs.DeclaredTypes.{declared_type_is_value}
use Rattle.pol_versions.proofs.Members.{contains_map, map_contains, of_first}
use Rattle.pol_versions.proofs.RulesOfTrees.{declared_by, declares_value, found_by}

-- ---- references that are all declared

module _ (named : Named) where
  front_none : (rs others : List Reference) → dangling_of named (rs ++ others) ≡ None → dangling_of named rs ≡ None
  front_none rs others e = go (dangling_of named rs) refl
    where
      go : (o : Option Fault) → dangling_of named rs ≡ o → dangling_of named rs ≡ None
      go None is = is
      go (Some f) is = let some = undeclared_first named rs others f is in absurd (cc (e, some))

  rest_none : (rs others : List Reference) → dangling_of named (rs ++ others) ≡ None → dangling_of named others ≡ None
  rest_none rs others e = sym (dangling_none named rs others (front_none rs others e)) ∙ e

  of_record : {A : Type 0} (references : A → List Reference) (xs : List A) (x : A) → dangling_of named (flat_map references xs) ≡ None → Contains xs x → dangling_of named (references x) ≡ None
  of_record references [] x e h = absurd (contains_nothing x h)
  of_record {A} references (y ∷ ys) x e h =
      of_first (λ (x : A). dangling_of named (references x) ≡ None) y ys x (front_none (references y) (flat_map references ys) e) (λ rest. of_record references ys x (rest_none (references y) (flat_map references ys) e) rest) h

  first_named : (r : Reference) (rs : List Reference) → dangling_of named (r ∷ rs) ≡ None → is_some (named r.table r.value) ≡ true
  first_named r rs e = go (is_some (named r.table r.value)) _ _ e
    where
      go : (b : Bool) (x : Option Fault) (f : Fault) → (if b then x else Some f) ≡ None → b ≡ true
      go true x f e = refl
      go false x f e = absurd (cc e)

-- ---- the values of types

-- a value that is declared is one of theirs
pub declared_value : (types : List TypeRec) (value : ℕ) → declared_by types value ≡ true → Contains (map (λ type. type.value) types) value
declared_value types value e =
    let found = any_gives (declares_value value) types (and_parts _ _ e).1 in
    let same : found.0.value ≡ value = eqb-true found.0.value value (and_parts _ _ found.2).1 in
    subst (Contains (map (λ (type : TypeRec). type.value) types)) same (contains_map (λ (type : TypeRec). type.value) types found.0 found.1)

module _ (bytes : List ℕ) (policy : Parts) (accepted : accept bytes ≡ Ok policy) where
  abbrev pub types : List TypeRec
  types = values_of policy.symbols.types.records

  fits : (t : Placed TypeRec) → Contains policy.symbols.types.records t → t.value.value < 2 ^ 32
  fits t h =
      let has = accepted_has_type_values bytes policy accepted in
      let few = has.few in
      let within = All-contains (λ (t : Placed TypeRec). (1 ≤ t.value.value) × (t.value.value ≤ policy.symbols.types.nprim)) policy.symbols.types.records t has.within h in
      omega (arith, few, within.1)

  record_declared : (t : Placed TypeRec) → Contains policy.symbols.types.records t → declared_by types t.value.value ≡ true
  record_declared t h = and_from _ _ (lt-ltb t.value.value (2 ^ 32) (fits t h)) (go (is_primary_type t.value.properties) refl its_references)
    where
      of_roles : List Reference
      of_roles = references_in role_references policy.symbols.roles.records

      of_types : List Reference
      of_types = references_in type_references policy.symbols.types.records

      named : Named
      named = name_in policy.symbols

      alias : Reference
      alias = record { place = t.place + 4; field = TYPE_VALUE; table = Types; value = t.value.value }

      bounds : Reference
      bounds = record { place = t.place + 12; field = TYPE_BOUNDS; table = Types; value = t.value.bounds }

      all_declared : dangling_of named of_types ≡ None
      all_declared =
          let symbols = symbol_references policy.symbols in
          let all = front_none named (symbols ++ rule_references policy.rules) (label_references policy.labels) (accepted_is_declared bytes policy accepted) in
          let both = front_none named symbols (rule_references policy.rules) all in
          let users = references_in user_references policy.symbols.users.records in
          let levels = references_in sensitivity_references policy.symbols.levels.records in
          let categories = references_in category_references policy.symbols.categories.records in
          rest_none named of_roles of_types
          (front_none named (of_roles ++ of_types) users (front_none named (of_roles ++ of_types ++ users) levels (front_none named (of_roles ++ of_types ++ users ++ levels) categories both)))

      its_references : dangling_of named (alias_reference (is_primary_type t.value.properties) alias ++ bounds_reference bounds) ≡ None
      its_references = of_record named type_references policy.symbols.types.records t all_declared h

      go : (primary : Bool) → is_primary_type t.value.properties ≡ primary → dangling_of named (alias_reference primary alias ++ bounds_reference bounds) ≡ None → list_any (declares_value t.value.value) types ≡ true
      go true is e = any_from (declares_value t.value.value) types t.value (contains_map (λ (t : Placed TypeRec). t.value) policy.symbols.types.records t h) (and_from _ _ is (eq-eqb t.value.value t.value.value refl))
      go false is e = sym (found_by policy.symbols.types.records t.value.value) ∙ first_named named alias (bounds_reference bounds) e

  -- each value of a type record is declared
  pub value_declared : (value : ℕ) → Contains (map (λ type. type.value) types) value → declared_by types value ≡ true
  value_declared value h =
      let of_value = map_contains (λ (type : TypeRec). type.value) types value h in
      let of_record = map_contains (λ (t : Placed TypeRec). t.value) policy.symbols.types.records of_value.of of_value.there in
      let declared : declared_by types of_value.of.value ≡ true = subst (λ (t : TypeRec). declared_by types t.value ≡ true) of_record.is (record_declared of_record.of of_record.there) in
      subst (λ (value : ℕ). declared_by types value ≡ true) of_value.is declared

  pub values_fit : All (λ value. value < 2 ^ 32) (map (λ type. type.value) types)
  values_fit =
      All-map (λ (value : ℕ). value < 2 ^ 32) (λ (type : TypeRec). type.value) types λ i d lt.
      let of_record = map_contains (λ (t : Placed TypeRec). t.value) policy.symbols.types.records (get_or types i d) (Contains-get_or types i d lt) in
      subst (λ (t : TypeRec). t.value < 2 ^ 32) of_record.is (fits of_record.of of_record.there)

  -- a value that is declared by its name
  pub named_declared : (value : ℕ) → IsDeclaredIn policy.symbols Types value → declared_by types value ≡ true
  named_declared value declared =
      let is = declared_type_is_value bytes policy value accepted declared in
      let few = (accepted_has_type_values bytes policy accepted).few in
      and_from _ _ (lt-ltb value (2 ^ 32) (omega (arith, is.1, few))) (sym (found_by policy.symbols.types.records value) ∙ declared)
