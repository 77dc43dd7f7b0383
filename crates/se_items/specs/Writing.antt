-- What a sink gains over several writes.
use Rattle.std.specs.Prelude.{◌≡◌, ◌≤◌, ◌++◌, ℕ, List, Option, Result, OnOk, OnErr, IsErrOf}
use Rattle.std.specs.Io.KnownBytes.{Appends}
use Rattle.se_outside.specs.Outside.{Rose, SinkState}
use Rattle.se_items.specs.declared.writing.WriteEnd.{WriteEnd}
use Rattle.se_items.specs.declared.writing.WriteEnd.TheVariants.{Fault}

-- The bytes of a sink, where it tells them, grow by a front of the text.
abbrev pub GainsPart : Option (List ℕ) → Option (List ℕ) → List ℕ → Type 0
GainsPart old new text = (front : List ℕ) × (rest : List ℕ) × (text ≡ front ++ rest) × Appends old new front

-- A text was written whole at Ok. Else a front of it was, and the count of faults rose.
pub record Wrote {T E : Type 0} (old new : SinkState) (text : List ℕ) (result : Result T E) : Type 0 where
  pub later : old.faults ≤ new.faults
  pub whole : OnOk result (Appends old.written new.written text)
  pub part : OnErr result (GainsPart old.written new.written text)
  pub failed : OnErr result (Rose old.faults new.faults)

-- A text whose making takes memory was written whole at Ok. Else a front of it was, and the count of faults rose where a write failed.
pub record Sends {T : Type 0} (old new : SinkState) (text : List ℕ) (result : Result T WriteEnd) : Type 0 where
  pub later : old.faults ≤ new.faults
  pub whole : OnOk result (Appends old.written new.written text)
  pub part : OnErr result (GainsPart old.written new.written text)
  pub failed : IsErrOf result Fault → Rose old.faults new.faults

-- Through a buffer, which had something and has something now: what it had and the text went on, and what is not with the
-- sink yet is in the buffer.
abbrev pub Moves : Option (List ℕ) → Option (List ℕ) → List ℕ → List ℕ → List ℕ → Type 0
Moves old new had has text = (front : List ℕ) × (had ++ text ≡ front ++ has) × Appends old new front

-- A text went through the buffer at Ok. Else the sink gained a front of what the buffer had and the text.
pub record Emits {T : Type 0} (old new : SinkState) (had has text : List ℕ) (result : Result T WriteEnd) : Type 0 where
  pub later : old.faults ≤ new.faults
  pub whole : OnOk result (Moves old.written new.written had has text)
  pub part : OnErr result (GainsPart old.written new.written (had ++ text))
  pub failed : IsErrOf result Fault → Rose old.faults new.faults

-- A text whose making takes no memory went through the buffer at Ok. Else the sink gained a front of what the buffer had and the
-- text, and the count of faults rose.
pub record Puts {T E : Type 0} (old new : SinkState) (had has text : List ℕ) (result : Result T E) : Type 0 where
  pub later : old.faults ≤ new.faults
  pub whole : OnOk result (Moves old.written new.written had has text)
  pub part : OnErr result (GainsPart old.written new.written (had ++ text))
  pub failed : OnErr result (Rose old.faults new.faults)

-- A text was said: a front of it stands there, and all of it where the count of faults did not rise.
pub record Said (old new : SinkState) (text : List ℕ) : Type 0 where
  pub later : old.faults ≤ new.faults
  pub part : GainsPart old.written new.written text
  pub whole : (Rose old.faults new.faults → ⊥) → Appends old.written new.written text
