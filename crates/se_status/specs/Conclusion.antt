-- An answer, and how a run concludes with it.
use Rattle.std.specs.Prelude.{◌≡◌, ◌≤◌, ℕ, List, [], ⊤, Option, Some, None, Result, Ok, Err}
use Rattle.std.specs.Io.KnownBytes.{Appends}
use Rattle.se_outside.specs.Outside.{Rose, SinkState}
use Rattle.se_items.specs.declared.WriteEnd.{WriteEnd}
use Rattle.se_items.specs.declared.WriteEnd.TheVariants as ends
use Rattle.se_items.specs.Writing.{GainsPart}
use Rattle.se_status.specs.declared.status.Status.{Status}
use Rattle.se_status.specs.declared.status.Status.TheVariants.{Done, ReadFault, UnknownName, BadNumber, BadPattern, WriteFault, Memory}

-- a status, and the bytes that are written with it
pub record Answer : Type 0 where
  pub status : Status
  pub text : List ℕ

-- a text that is written whole
abbrev pub done : List ℕ → Answer
done text = record { status = Done; text = text }

-- a status with which nothing is written
abbrev pub refusal : Status → Answer
refusal status = record { status = status; text = [] }

-- a text, unless a name of this word is unknown
abbrev pub text_unless : Option ℕ → List ℕ → Answer
text_unless None text = done text
text_unless (Some word) text = refusal (UnknownName word)

-- The answer comes to the names, numbers and patterns of the words, and refuses no word before the one of this number.
abbrev pub ComesTo : ℕ → Status → Type 0
ComesTo word Done = ⊤
ComesTo word (UnknownName other) = word ≤ other
ComesTo word (BadNumber other) = word ≤ other
ComesTo word status = ⊥

-- The status is that of the answer and the sink gained its text, but where reading, writing, a pattern or memory failed.
abbrev pub Meets : Answer → SinkState → SinkState → Status → Type 0
Meets answer old new (ReadFault slot) = Appends old.written new.written []
Meets answer old new (BadPattern word kind) = ComesTo word answer.status × Appends old.written new.written []
Meets answer old new WriteFault = (answer.status ≡ Done) × GainsPart old.written new.written answer.text
Meets answer old new Memory = GainsPart old.written new.written answer.text
Meets answer old new status = (status ≡ answer.status) × Appends old.written new.written answer.text

-- Nothing was written but with an answer that is done, or was begun.
abbrev pub WritesNothing : SinkState → SinkState → Status → Type 0
WritesNothing old new Done = ⊤
WritesNothing old new WriteFault = ⊤
WritesNothing old new Memory = ⊤
WritesNothing old new status = Appends old.written new.written []

-- What an answer that is written ends with.
abbrev pub IsWritten : Status → Type 0
IsWritten Done = ⊤
IsWritten WriteFault = ⊤
IsWritten Memory = ⊤
IsWritten status = ⊥

-- how a run ends whose answer was written, or why not
abbrev pub written_status : Result (Unit {0}) WriteEnd → Status
written_status (Ok u) = Done
written_status (Err ends.Fault) = WriteFault
written_status (Err ends.Memory) = Memory

-- What a policy that was read ends with, where the names of its words alone can be refused.
abbrev pub IsPlain : Status → Type 0
IsPlain Done = ⊤
IsPlain (UnknownName word) = ⊤
IsPlain WriteFault = ⊤
IsPlain Memory = ⊤
IsPlain status = ⊥

-- The run meets the answer, by its status and by what the sink gained.
pub record Concludes (answer : Answer) (old new : SinkState) (status : Status) : Type 0 where
  pub meets : Meets answer old new status
  pub silent : WritesNothing old new status
  pub wrote : status ≡ WriteFault → Rose old.faults new.faults
  pub later : old.faults ≤ new.faults
