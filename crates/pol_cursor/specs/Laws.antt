-- The two laws of a record, over what reads it and what spells it.
use Rattle.std.specs.Prelude.{◌≡◌, ℕ, ◌+◌, List, ◌++◌, length, drop}
use Rattle.pol_cursor.specs.Outcome.{Outcome, Got, Bad, Reader}
use Rattle.pol_cursor.specs.Spelling.{AreBytes}

-- the text stands in the bytes from a place to the next
pub record Stands (bytes : List ℕ) (place next : ℕ) (text : List ℕ) : Type 0 where
  pub parts : drop place bytes ≡ text ++ drop next bytes
  pub ends : next ≡ place + length text

-- The value was read from this text, of which the fact holds.
pub record Spelled {A : Type 0} (P : List ℕ → A → Type 0) (bytes : List ℕ) (place next : ℕ) (x : A) : Type 0 where
  pub text : List ℕ
  pub stands : Stands bytes place next text
  pub holds : P text x

-- Each value that is read comes from a text that the fact ties to it.
pub record Reads {A : Type 0} (r : Reader A) (P : List ℕ → A → Type 0) : Type 0 where
  pub spelled : (bytes : List ℕ) (place : ℕ) (x : A) (next : ℕ) → AreBytes bytes → r bytes place ≡ Got x next → Spelled P bytes place next x

-- an outcome that is bad, or this value and this place after it
abbrev pub IsOf : {A : Type 0} → A → ℕ → Outcome A → Type 0
IsOf x next (Got y after) = (y ≡ x) × (after ≡ next)
IsOf x next (Bad f) = Unit {0}

-- what reading a text after these bytes gives, whatever follows it
pub record Settled {A : Type 0} (r : Reader A) (x : A) (text before : List ℕ) : Type 0 where
  pub outcome : Outcome A
  pub is_of : IsOf x (length before + length text) outcome
  pub always : (after : List ℕ) → r (before ++ (text ++ after)) (length before) ≡ outcome

-- reading a text, after any bytes, is settled: it is bad or gives the value, whatever follows
pub record Again {A : Type 0} (r : Reader A) (x : A) (text : List ℕ) : Type 0 where
  pub settled : (before : List ℕ) → Settled r x text before

-- The first law: what is spelled and read again is refused or is the same, whatever stands before and after.
abbrev pub IsReadAgain : {A : Type 0} → Reader A → (A → List ℕ) → (A → Type 0) → Type 0
IsReadAgain {A} r spell fits = (x : A) → fits x → Again r x (spell x)

-- The second law: a value that was read is spelled by the bytes that it was read from, and fits.
pub record IsSpelling {A : Type 0} (spell : A → List ℕ) (fits : A → Type 0) (text : List ℕ) (x : A) : Type 0 where
  pub same : text ≡ spell x
  pub fitting : fits x

abbrev pub IsReadFromSpelling : {A : Type 0} → Reader A → (A → List ℕ) → (A → Type 0) → Type 0
IsReadFromSpelling r spell fits = Reads r (IsSpelling spell fits)
