-- The parts that records are made of: numbers, bytes and counted lists.
use Rattle.std.specs.Prelude.{◌≡◌, ℕ, zero, suc, ◌+◌, Bool, true, false, Option, Some, None, List, [], ◌∷◌, ◌++◌, length, take, drop, nat_lt, if◌then◌else◌}
use Rattle.std.specs.Prelude.{◌<◌, ◌^◌}
use Rattle.std.specs.List.{flat_map, AllByRecursion}
use Rattle.pol_cursor.specs.Spelling.{bytes_of}
use Rattle.byteorder.specs.Endian.{little_number}
use Rattle.pol_fields.specs.declared.field.Field.{Field}
use Rattle.pol_fields.specs.declared.fault.Cause.{Cause}
use Rattle.pol_fields.specs.declared.fault.Cause.TheVariants.{Short, Trailing}
use Rattle.pol_cursor.specs.Outcome.{field, checked, Got, Bad, Reader, fault, ◌>>=◌, done}

-- the little-endian number of the w bytes from a place
unfoldable pub num : List ℕ → ℕ → ℕ → ℕ
num bytes place w = little_number w (drop place bytes)

-- a number of w bytes
unfoldable pub number : Field → ℕ → Reader ℕ
number field w bytes place = if nat_lt (length bytes) (place + w) then Bad (fault place field Short) else Got (num bytes place w) (place + w)

-- n bytes
unfoldable pub string : Field → ℕ → Reader (List ℕ)
string field n bytes place = if nat_lt (length bytes) (place + n) then Bad (fault place field Short) else Got (take n (drop place bytes)) (place + n)

-- no byte is left
unfoldable pub end_at : Field → Reader (Unit {0})
end_at field bytes place = if nat_lt place (length bytes) then Bad (fault place field Trailing) else Got tt place

-- n items, each read under what the ones before it made of the context. An item knows how many come after it.
unfoldable pub list_of : {S A : Type 0} → (ℕ → S → Reader A) → (S → A → S) → ℕ → S → Reader (List A)
list_of item step zero context = done []
list_of item step (suc n) context = do
  x ← item n context
  xs ← list_of item step n (step context x)
  done (x ∷ xs)

-- n records, none of which is read under what another one made
unfoldable pub records_at : {A : Type 0} → Reader A → ℕ → Reader (List A)
records_at record_at n = list_of {S = Unit {0}} (λ left context. record_at) (λ context x. context) n tt

-- a list behind its count
abbrev pub counted : {A : Type 0} → Field → (ℕ → Reader (List A)) → Reader (List A)
counted field items_at = number field 4 >>= items_at

abbrev pub spell_counted : {A : Type 0} → (A → List ℕ) → List A → List ℕ
spell_counted spell xs = bytes_of 4 (length xs) ++ flat_map spell xs

pub record CountedFits {A : Type 0} (fits : A → Type 0) (xs : List A) : Type 0 where
  pub count : length xs < 2 ^ 32
  pub items : AllByRecursion fits xs

-- a number of w bytes under conditions
abbrev pub number_if : Field → ℕ → (ℕ → Option Cause) → Reader ℕ
number_if field w test = checked field (number field w) test

-- n bytes under conditions
abbrev pub string_if : Field → ℕ → (List ℕ → Option Cause) → Reader (List ℕ)
string_if field n test = checked field (string field n) test

-- no cause where the test holds
abbrev pub unless : Bool → Cause → Option Cause
unless true cause = None
unless false cause = Some cause

-- a part that is there or not
unfoldable pub optional : {A : Type 0} → Bool → Reader A → Reader (Option A)
optional true r = r >>= λ x. done (Some x)
optional false r = done None

abbrev pub spell_optional : {A : Type 0} → (A → List ℕ) → Option A → List ℕ
spell_optional spell None = []
spell_optional spell (Some x) = spell x

-- a part that is there exactly where it has to be
abbrev pub OptionFits : {A : Type 0} → Bool → (A → Type 0) → Option A → Type 0
OptionFits there fits None = there ≡ false
OptionFits there fits (Some x) = (there ≡ true) × fits x

-- two parts that come together
abbrev pub both : {A B : Type 0} → Option A → Option B → Option (A × B)
both (Some x) (Some y) = Some (x, y)
both (Some x) None = None
both None y = None
