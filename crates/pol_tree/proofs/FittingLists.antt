-- What is known of each record of a list is known of the list: it has no more records than bytes.
use Rattle.std.proofs.Common.{◌≡◌, ℕ, ◌+◌, ◌<◌, ◌≤◌, ◌^◌, Bool, true, false, Option, Some, None, List, [], ◌∷◌, length, refl, ◌∙◌, arith}
use Rattle.std.specs.Prelude.{IfSome}
use Rattle.std.specs.List.{flat_map, AllByRecursion}
use Rattle.std.proofs.lemmas.List.{length-append}
use Rattle.std.proofs.lemmas.List.Concat.{flat_map-cons}
use Rattle.pol_fields.specs.declared.Field.{Field}
use Rattle.pol_cursor.specs.Parts.{spell_optional, OptionFits}
use Rattle.pol_tree.specs.OptionalParts.{shape_of_part, first_in}
use Rattle.pol_tree.specs.Inner.Fitting.{IsFitting, AreFitting}
use Rattle.pol_tree.proofs.Wrongs.{none_each}

-- ---- optional parts

-- a part that is there exactly where it has to be, and is no longer than a text that can be counted
pub optional_fits : {A : Type 0} (fits : A → Type 0) (spell : A → List ℕ) (there : Bool) (part : Option A) (field : Field) → IfSome part (IsFitting (λ x. None) fits spell) → shape_of_part there part field ≡ None → length (spell_optional spell part) < 2 ^ 32 → OptionFits there fits part
optional_fits fits spell true (Some x) field is right few = (refl, is.fitting refl few)
optional_fits fits spell false (Some x) field is right few = absurd cc
optional_fits fits spell true None field is right few = absurd cc
optional_fits fits spell false None field is right few = refl

-- ---- lists

module _ {A : Type 0} (shape : A → Option Field) (fits : A → Type 0) (spell : A → List ℕ) where
  count : (xs : List A) → AllByRecursion (IsFitting shape fits spell) xs → length xs ≤ length (flat_map spell xs)
  count [] each = omega arith
  count (x ∷ xs) each = rw flat_map-cons (omega (arith, length-append (spell x) (flat_map spell xs), each.0.some, count xs each.1))

  items : (xs : List A) → AllByRecursion (IsFitting shape fits spell) xs → first_in shape xs ≡ None → length (flat_map spell xs) < 2 ^ 32 → AllByRecursion fits xs
  items [] each right few = tt
  items (x ∷ xs) each right few =
      let rights = none_each (shape x) _ right in
      let both : length (spell x) + length (flat_map spell xs) < 2 ^ 32 = simp (flat_map-cons, length-append) at few in
      (each.0.fitting rights.0 (omega (arith, both)), items xs each.1 rights.1 (omega (arith, both)))

  -- records of which none is wrong were all looked at
  pub list_fits : (xs : List A) (wrong : Option Field) → wrong ≡ first_in shape xs → (wrong ≡ None → AllByRecursion (IsFitting shape fits spell) xs) → AreFitting shape fits spell xs
  list_fits xs wrong is looked = record {
    fitting = λ right few.
        let each = looked (is ∙ right) in
        record { count = omega (arith, count xs each, few); items = items xs each right few };
  }
