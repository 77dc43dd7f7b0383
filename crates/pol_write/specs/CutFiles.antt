-- Policy files that are cut short, as a download that broke off leaves them. That such a file is refused is a rule of libsepol's reader
-- (next_entry), and the place of the fault is this project's own.
use Rattle.std.specs.Prelude.{◌≡◌, ℕ, ◌+◌, ◌<◌, ◌≤◌, List, Result, Ok, Err, length, take}
use Rattle.pol_fields.specs.declared.Fault.{Fault}
use Rattle.pol_fields.specs.declared.Field.{Field}
use Rattle.pol_fields.specs.declared.Cause.TheVariants.{Short}
use Rattle.pol_cursor.specs.Outcome.{fault}
use Rattle.pol_file.specs.Acceptance.{accept}
use Rattle.pol_file.specs.declared.Parts.{Parts}

-- a file of n bytes is refused as too short, at a field that begins within them or at their end
abbrev pub IsCutShort : ℕ → Result Parts Fault → Type 0
IsCutShort n (Ok policy) = ⊥
IsCutShort n (Err fault) = (fault.cause ≡ Short) × (fault.place ≤ n)

-- no fault stands before a place
abbrev pub IsGoodUpTo : ℕ → Result Parts Fault → Type 0
IsGoodUpTo place (Ok policy) = Unit {0}
IsGoodUpTo place (Err fault) = place ≤ fault.place

-- A file has a field of so many bytes at a place: where the file is cut within the field, it is too short at the field, and where it is
-- cut behind it, no fault stands before the field's end.
pub record HasField (bytes : List ℕ) (place width : ℕ) (field : Field) : Type 0 where
  pub within : (n : ℕ) → place ≤ n → n < place + width → accept (take n bytes) ≡ Err (fault place field Short)
  pub behind : (n : ℕ) → place + width ≤ n → IsGoodUpTo (place + width) (accept (take n bytes))
  pub ends : place + width ≤ length bytes

-- the field of a file within which its first n bytes end
pub record CutField (bytes : List ℕ) (n : ℕ) : Type 0 where
  pub place : ℕ
  pub width : ℕ
  pub field : Field
  pub begins : place ≤ n
  pub lacks : n < place + width
  pub stands : HasField bytes place width field
