-- The first wrong part of a list, one part after the other.
use Rattle.std.proofs.Common.{◌≡◌, ℕ, ◌+◌, ◌<◌, ◌≤◌, Option, Some, None, List, [], ◌∷◌, length, drop, get_or, refl, add-one, option_and_then}
use Rattle.std.specs.List.{AllByRecursion}
use Rattle.std.proofs.Math.Seq.{drop-cons}
use Rattle.std.proofs.lemmas.List.{drop_all}
use Rattle.pol_fields.specs.declared.Field.{Field}
use Rattle.pol_tree.specs.OptionalParts.{first_of, first_in}

-- ---- of parts

-- where no part is wrong, the first is not and none of the others is
pub none_each : (part : Option Field) (others : List (Option Field)) → first_of (part ∷ others) ≡ None → (part ≡ None) × (first_of others ≡ None)
unfolding first_of
none_each None others e = (refl, e)
none_each (Some field) others e = absurd cc

-- none of the parts is wrong, if the first is not and none of the others is
pub none-first : (part : Option Field) (others : List (Option Field)) → part ≡ None → first_of others ≡ None → first_of (part ∷ others) ≡ None
unfolding first_of
none-first part others e h = rw e h

pub none-last : first_of [] ≡ None
unfolding first_of
none-last = refl

-- a part that is right
pub first_none : (parts : List (Option Field)) → first_of (None ∷ parts) ≡ first_of parts
unfolding first_of
first_none parts = refl

-- a part before others of which the same is the first that is wrong
pub first_then : (part : Option Field) (parts others : List (Option Field)) → first_of parts ≡ first_of others → first_of (part ∷ parts) ≡ first_of (part ∷ others)
unfolding first_of
first_then None parts others same = same
first_then (Some field) parts others same = refl

-- a part before one that is right
pub first_alone : (part : Option Field) → first_of (part ∷ None ∷ []) ≡ part
unfolding first_of
first_alone None = refl
first_alone (Some field) = refl

-- it is wrong
pub part_here : (parts : List (Option Field)) (i : ℕ) (field : Field) → i < length parts → get_or parts i None ≡ Some field → first_of (drop i parts) ≡ Some field
unfolding first_of
part_here parts i field lt wrong = rw (drop-cons parts i None lt, wrong) refl

-- it is not, and others follow
pub part_later : (parts : List (Option Field)) (i : ℕ) → i < length parts → get_or parts i None ≡ None → first_of (drop i parts) ≡ first_of (drop (i + 1) parts)
unfolding first_of
part_later parts i lt right = rw (add-one, drop-cons parts i None lt, right) refl

-- none is left
pub part_none : (parts : List (Option Field)) (i : ℕ) → length parts ≤ i → first_of (drop i parts) ≡ None
unfolding first_of
part_none parts i le = rw (drop_all i parts le) refl

-- ---- of records

-- records with no optional part
pub none_in : {A : Type 0} (xs : List A) → first_in (λ x. None) xs ≡ None
unfolding first_of
none_in [] = refl
none_in (x ∷ xs) = none_in xs

pub none_within : {A : Type 0} (part : Option A) → option_and_then {U = Field} (λ x. None) part ≡ None
none_within (Some x) = refl
none_within None = refl

module _ {A : Type 0} (shape : A → Option Field) (xs : List A) (i : ℕ) where
  pub record_here : (d x : A) (field : Field) → i < length xs → x ≡ get_or xs i d → shape x ≡ Some field → first_in shape (drop i xs) ≡ Some field
  unfolding first_of
  record_here d x field lt is wrong = rw (drop-cons xs i d lt, ← is, wrong) refl

  pub record_later : (d x : A) → i < length xs → x ≡ get_or xs i d → shape x ≡ None → first_in shape (drop i xs) ≡ first_in shape (drop (i + 1) xs)
  unfolding first_of
  record_later d x lt is right = rw (add-one, drop-cons xs i d lt, ← is, right) refl

  pub record_none : length xs ≤ i → first_in shape (drop i xs) ≡ None
  unfolding first_of
  record_none le = rw (drop_all i xs le) refl

-- ---- what is known of records

module _ {A : Type 0} (P : A → Type 0) (xs : List A) (i : ℕ) where
  pub known_later : (d x : A) → i < length xs → x ≡ get_or xs i d → P x → AllByRecursion P (drop (i + 1) xs) → AllByRecursion P (drop i xs)
  known_later d x lt is here later = rw (drop-cons xs i d lt, ← is) (here, rw add-one at later)

  pub known_last : length xs ≤ i → AllByRecursion P (drop i xs)
  known_last le = rw (drop_all i xs le) tt
