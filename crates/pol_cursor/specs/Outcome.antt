-- What reading at a place gives, and how parts are read one after the other.
use Rattle.std.specs.Prelude.{◌≡◌, ℕ, List, Result, Ok, Err, Option, Some, None}
use Rattle.pol_fields.specs.declared.fault.Fault.{Fault}
use Rattle.pol_cursor.specs.declared.read_error.ReadError.{ReadError}
use Rattle.pol_cursor.specs.declared.read_error.ReadError.TheVariants as errors
use Rattle.pol_fields.specs.declared.field.Field.{Field}
use Rattle.pol_fields.specs.declared.fault.Cause.{Cause}

-- a value and the place after it, or the first fault
pub data Outcome (A : Type 0) : Type 0 where
  Got : A → ℕ → Outcome A
  Bad : Fault → Outcome A

-- what reads a value from all the bytes at a place
abbrev pub Reader : Type 0 → Type 0
Reader A = List ℕ → ℕ → Outcome A

-- a fault at a place
abbrev pub fault : ℕ → Field → Cause → Fault
fault place field cause = record { place = place; field = field; cause = cause }

-- the field of that number of the record of that code
abbrev pub field : ℕ → ℕ → Field
field row part = record { row = row; part = part }

abbrev pub and_then : {A B : Type 0} → Outcome A → (A → ℕ → Outcome B) → Outcome B
and_then (Got x next) f = f x next
and_then (Bad e) f = Bad e

-- each part is read where the one before it ended, and the first bad part is the fault
infixl 10 ◌>>=◌
abbrev pub ◌>>=◌ : {A B : Type 0} → Reader A → (A → Reader B) → Reader B
◌>>=◌ r f bytes place = and_then (r bytes place) (λ x next. f x bytes next)

-- no bytes are read, and the record is whole
abbrev pub done : {A : Type 0} → A → Reader A
done x bytes place = Got x place

-- a cause to refuse a value at its own field
abbrev pub judged : {A : Type 0} → Option Cause → Field → A → ℕ → ℕ → Outcome A
judged None field x place next = Got x next
judged (Some cause) field x place next = Bad (fault place field cause)

-- the value of a part whose conditions, tried in their order, name the cause that refuses it
abbrev pub checked : {A : Type 0} → Field → Reader A → (A → Option Cause) → Reader A
checked field r test bytes place = and_then (r bytes place) (λ x next. judged (test x) field x place next)

-- all the bytes, and a place in them
pub record Position : Type 0 where
  pub bytes : List ℕ
  pub place : ℕ

-- What a reader of the code answers, seen by view, is what reading gives where the cursor stood: the
-- value, with the cursor at the place after it, or the first fault. After an error nothing is said of the
-- cursor; so it is with Yields.
abbrev pub Answers : {X A : Type 0} → (X → A) → Result X Fault → Reader A → Position → Position → Type 0
Answers view (Ok x) r old new = (r old.bytes old.place ≡ Got (view x) new.place) × (new.bytes ≡ old.bytes)
Answers view (Err f) r old new = r old.bytes old.place ≡ Bad f

-- what a reader that takes memory answers: out of memory, nothing is said of the outcome
abbrev pub Fails : {A : Type 0} → ReadError → Outcome A → Type 0
Fails errors.Memory o = Unit {0}
Fails (errors.Fault f) o = o ≡ Bad f

abbrev pub Yields : {X A : Type 0} → (X → A) → Result X ReadError → Reader A → Position → Position → Type 0
Yields view (Ok x) r old new = (r old.bytes old.place ≡ Got (view x) new.place) × (new.bytes ≡ old.bytes)
Yields view (Err e) r old new = Fails e (r old.bytes old.place)

-- a value was read
abbrev pub IsGot : {A : Type 0} → Outcome A → Type 0
IsGot (Got x next) = Unit {0}
IsGot (Bad f) = ⊥

-- The code refuses a value exactly where there is a cause, as a fault at the place of the field.
abbrev pub Judges : Result (Unit {0}) Fault → Option Cause → ℕ → Field → Type 0
Judges (Ok u) test place field = test ≡ None
Judges (Err f) test place field = (test ≡ Some f.cause) × (f ≡ fault place field f.cause)
