-- How many bytes a spelling takes at most: those of its parts.
use Rattle.std.proofs.Common.{◌≡◌, ℕ, ◌+◌, ◌*◌, ◌≤◌, List, [], ◌++◌, length, arith}
use Rattle.std.specs.List.{flat_map, AllByRecursion}
use Rattle.std.proofs.lemmas.List.{length-append}
use Rattle.pol_cursor.specs.Parts.{spell_counted}
use Rattle.pol_cursor.specs.Spelling.{bytes_of}
use Rattle.pol_cursor.proofs.Numbers.{length-bytes_of}
use Rattle.pol_moved.proofs.ListFacts.{all-so, length-flat_map-most}

-- it takes no more than so many bytes
pub record TakesMost (most : ℕ) (text : List ℕ) : Type 0 where
  pub few : length text ≤ most

pub takes-nothing : TakesMost 0 []
takes-nothing = record { few = omega arith }

-- a text of that length
pub takes-text : (k : ℕ) (text : List ℕ) → length text ≡ k → TakesMost k text
takes-text k text e = record { few = omega (arith, e) }

pub takes-number : (w n : ℕ) → TakesMost w (bytes_of w n)
takes-number w n = record { few = omega (arith, length-bytes_of w n) }

-- two parts, one behind the other
infixl 10 ◌⊕◌
pub ◌⊕◌ : {a b : ℕ} {s t : List ℕ} → TakesMost a s → TakesMost b t → TakesMost (a + b) (s ++ t)
◌⊕◌ {a} {b} {s} {t} first second = record { few = omega (arith, length-append s t, first.few, second.few) }

-- a looser bound
pub takes-less : {a b : ℕ} {s : List ℕ} → TakesMost a s → a ≤ b → TakesMost b s
takes-less first less = record { few = omega (arith, first.few, less) }

-- records one after the other
pub takes-each : {A : Type 0} (spell : A → List ℕ) (k : ℕ) (xs : List A) → AllByRecursion (λ x. TakesMost k (spell x)) xs → TakesMost (length xs * k) (flat_map spell xs)
takes-each spell k xs each = record { few = length-flat_map-most spell k xs (all-so xs (λ x most. most.few) each) }

-- records behind their count
pub takes-counted : {A : Type 0} (spell : A → List ℕ) (k : ℕ) (xs : List A) → AllByRecursion (λ x. TakesMost k (spell x)) xs → TakesMost (4 + length xs * k) (spell_counted spell xs)
takes-counted spell k xs each = takes-number 4 (length xs) ⊕ takes-each spell k xs each
