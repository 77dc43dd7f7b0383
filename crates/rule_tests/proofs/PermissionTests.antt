-- Tests of permissions.
use Rattle.std.proofs.Common.{◌≡◌, inl, inr, ℕ, Bool, true, false, cond, Option, Some, None, List, [], ◌∷◌, refl, sym, ap, ◌∙◌, arith}
use Rattle.std.proofs.lemmas.Option.{slice_get_cases}
use Rattle.std.specs.Prelude.{slice_get}
use Rattle.std.specs.List.{find, list_any, slice_split, onto_first}
use Rattle.pol_cursor.specs.References.{Placed}
use Rattle.pol_fields.specs.declared.TableKind.TheVariants.{Classes}
use Rattle.pol_symtab.specs.SymbolTables.{declares}
use Rattle.pol_classes.specs.declared.ClassRec.{ClassRec}
use Rattle.pol_symbols.proofs.SymbolSearch.{primary_found, primary_is_within, primary_missing}
use Rattle.pol_symbols.specs.PolicySymbols.{index_in, permissions_of, permissions_found}
use Rattle.pol_symbols.specs.declared.Symbols.{Symbols}
use Rattle.pol_read.specs.declared.RulePart.{RulePart}
use Rattle.pol_read.specs.declared.RulePart.TheVariants as parts
use Rattle.rule_criteria.specs.Elements.{elements_of, is_comma}
use Rattle.rule_criteria.specs.declared.Criterion.{Criterion}
use Rattle.rule_criteria.specs.declared.Mode.{Mode}
use Rattle.rule_criteria.specs.declared.Mode.TheVariants.{Plain, Direct, Pattern, PatternDirect, Equal, Subset}
use Rattle.rule_tests.specs.declared.class_bits.ClassBits.{ClassBits}
use Rattle.rule_tests.specs.declared.permission_test.PermissionTest.{PermissionTest}
use Rattle.rule_tests.specs.AskedPermissions.{compare_names, is_one_of, meets_permissions, names_in_mask}
use Rattle.rule_tests.specs.PartTests.{bits_found, IsPermissionTest, meets_bits, meets_bits_found, meets_mask, permissions_test}
use Rattle.rule_tests.proofs.PermissionBits.{compared, names_of}

-- ---- no permissions

-- a text has some element
pub record HasFirst (xs : List (List ℕ)) : Type 0 where
  pub first : List ℕ
  pub others : List (List ℕ)
  pub is : xs ≡ first ∷ others

onto : (x : ℕ) (parts : List (List ℕ)) → HasFirst (onto_first x parts)
onto x [] = record { first = x ∷ []; others = []; is = refl }
onto x (part ∷ parts) = record { first = x ∷ part; others = parts; is = refl }

some_first : (b : Bool) (x : ℕ) (parts : List (List ℕ)) → HasFirst (cond b ([] ∷ parts) (onto_first x parts))
some_first true x parts = record { first = []; others = parts; is = refl }
some_first false x parts = onto x parts

has_element : (text : List ℕ) → HasFirst (elements_of text)
has_element [] = record { first = []; others = []; is = refl }
has_element (x ∷ xs) = some_first (is_comma x) x (slice_split is_comma xs)

none_among : (xs : List (List ℕ)) → list_any (is_one_of []) xs ≡ false
none_among [] = refl
none_among (x ∷ xs) = none_among xs

without : (mode : Mode) (first : List ℕ) (others : List (List ℕ)) → compare_names mode (first ∷ others) [] ≡ false
without Equal first others = refl
without Subset first others = refl
without Plain first others = none_among others
without Direct first others = none_among others
without Pattern first others = none_among others
without PatternDirect first others = none_among others

pub no_permissions : (mode : Mode) (text : List ℕ) → compare_names mode (elements_of text) [] ≡ false
no_permissions mode text = let h = has_element text in ap (λ (xs : List (List ℕ)). compare_names mode xs []) h.is ∙ without mode h.first h.others

-- ---- the permissions of a class

module _ (symbols : Symbols) (criterion : Criterion) (test : PermissionTest) (is : IsPermissionTest symbols criterion test) (class mask : ℕ) where
  declared_class : Placed ClassRec → Bool
  declared_class = declares (λ (class : ClassRec). true) (λ (class : ClassRec). class.value) class

  at_class : (i : ℕ) (record_at : Placed ClassRec) → slice_get symbols.classes.records i ≡ Some record_at → meets_bits_found test.mode (bits_found test.classes.items (Some i)) mask ≡ compare_names criterion.mode (elements_of criterion.text) (names_of mask (permissions_of symbols record_at.value))
  at_class i record_at at =
      let found = is.classes i record_at at in
      ap (λ (bits : Option ClassBits). meets_bits_found test.mode bits mask) found.1
      ∙ ap (λ (mode : Mode). meets_bits mode found.0 mask) is.mode
      ∙ compared (elements_of criterion.text) (permissions_of symbols record_at.value) found.0 found.2 mask criterion.mode

  no_class : (o : Option (Placed ClassRec)) → o ≡ None → false ≡ compare_names criterion.mode (elements_of criterion.text) (names_of mask (permissions_found symbols o))
  no_class o e = rw e (sym (no_permissions criterion.mode criterion.text))

  by_index : (index : Option ℕ) → index_in symbols Classes class ≡ index → meets_bits_found test.mode (bits_found test.classes.items index) mask ≡ compare_names criterion.mode (elements_of criterion.text) (names_in_mask symbols class mask)
  unfolding declared_class
  by_index None e = no_class (find declared_class symbols.classes.records) (primary_missing (λ (class : ClassRec). true) (λ (class : ClassRec). class.value) symbols.classes.records class e)
  by_index (Some i) e = elim (slice_get_cases symbols.classes.records i).1 [
    | inl h ↦
        at_class i h.0 h.2
        ∙ ap (λ (o : Option (Placed ClassRec)). compare_names criterion.mode (elements_of criterion.text) (names_of mask (permissions_found symbols o))) (sym (primary_found (λ (class : ClassRec). true) (λ (class : ClassRec). class.value) symbols.classes.records class i h.0 e h.2))
    | inr h ↦ let lt = primary_is_within (λ (class : ClassRec). true) (λ (class : ClassRec). class.value) symbols.classes.records class i e in absurd (omega (arith, lt, h.0))
  ]

  pub mask_compares : meets_mask symbols test class mask ≡ compare_names criterion.mode (elements_of criterion.text) (names_in_mask symbols class mask)
  mask_compares = by_index (index_in symbols Classes class) refl

pub permissions_are : (symbols : Symbols) (criterion : Criterion) (test : PermissionTest) → IsPermissionTest symbols criterion test → (class : ℕ) (part : RulePart) → permissions_test symbols test class part ≡ meets_permissions symbols criterion class part
permissions_are symbols criterion test is class (parts.Perms mask) = mask_compares symbols criterion test is class mask
permissions_are symbols criterion test is class (parts.Numbers numbers) = is.ioctl
permissions_are symbols criterion test is class (parts.Default value) = sym (no_permissions criterion.mode criterion.text)
permissions_are symbols criterion test is class (parts.Range range) = sym (no_permissions criterion.mode criterion.text)
permissions_are symbols criterion test is class parts.Nothing = sym (no_permissions criterion.mode criterion.text)
