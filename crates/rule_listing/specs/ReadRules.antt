-- Rules that are looked at before their texts are made.
use Rattle.std.specs.Prelude.{◌≡◌, ◌<◌, ℕ, Bool, true, false, List, [], ◌∷◌, ◌==◌, ◌&&◌, not, Option, Some, None, length, slice_get}
use Rattle.std.specs.List.{All}
use Rattle.pol_cursor.specs.References.{Placed}
use Rattle.pol_avtab.specs.declared.AvRec.{AvRec}
use Rattle.pol_avtab.specs.XPerms.{mask_of}
use Rattle.pol_file.specs.declared.Parts.{Parts}
use Rattle.pol_read.specs.StoredRules.{stored_rules}
use Rattle.rule_listing.specs.declared.listed_rule.ListedRule.{ListedRule}

-- the rules of a policy that are left, by their numbers
pub record RulesLeft : Type 0 where
  pub policy : Parts
  pub numbers : List ℕ

-- each is the number of a stored rule
abbrev pub AreNumbers : Parts → List ℕ → Type 0
AreNumbers policy numbers = All (λ number. number < length (stored_rules policy)) numbers

-- It is the first of some stored rules.
abbrev pub IsOfFirst : Parts → List ℕ → ListedRule → Type 0
IsOfFirst policy [] rule = ⊥
IsOfFirst policy (number ∷ numbers) rule = (rule.number ≡ number) × (number < length (stored_rules policy))

-- The first of some numbers was passed over, if there was one.
abbrev pub PassesNumber : List ℕ → List ℕ → Bool → Type 0
PassesNumber old new true = (number : ℕ) × (old ≡ number ∷ new)
PassesNumber old new false = (old ≡ []) × (new ≡ [])

-- What an access vector gives is a number that is not 0, and so is its source.
abbrev pub gives : ℕ → Option ℕ → Bool
gives source None = false
gives source (Some mask) = not (mask == 0) && not (source == 0)

-- The rule of a number is such a vector of the table.
abbrev pub is_plain_vector : Option (Placed AvRec) → Bool
is_plain_vector None = false
is_plain_vector (Some av) = gives av.value.source (mask_of av.value.part)

abbrev pub is_plain : List (Placed AvRec) → ℕ → Bool
is_plain table number = is_plain_vector (slice_get table number)
