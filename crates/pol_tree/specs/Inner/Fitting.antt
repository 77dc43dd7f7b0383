-- What is known of records by the types of their numbers, which are no wider than their fields, and of lists of them. It serves the
-- code alone.
use Rattle.std.specs.Prelude.{◌≡◌, ℕ, ◌^◌, ◌<◌, ◌≤◌, Option, None, List, length}
use Rattle.std.specs.List.{flat_map}
use Rattle.pol_fields.specs.declared.Field.{Field}
use Rattle.pol_cursor.specs.Parts.{CountedFits}
use Rattle.pol_tree.specs.OptionalParts.{first_in}

-- It has bytes, and fits where no optional part of it is wrong and its bytes can be counted in 32 bits.
pub record IsFitting {A : Type 0} (shape : A → Option Field) (fits : A → Type 0) (spell : A → List ℕ) (x : A) : Type 0 where
  pub some : 1 ≤ length (spell x)
  pub fitting : shape x ≡ None → length (spell x) < 2 ^ 32 → fits x

-- A list of such records fits, and so does its count, where no optional part of them is wrong and their bytes can be counted.
pub record AreFitting {A : Type 0} (shape : A → Option Field) (fits : A → Type 0) (spell : A → List ℕ) (xs : List A) : Type 0 where
  pub fitting : first_in shape xs ≡ None → length (flat_map spell xs) < 2 ^ 32 → CountedFits fits xs
