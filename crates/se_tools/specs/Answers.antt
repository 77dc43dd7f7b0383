-- How a run meets the answer to the words.
use Rattle.std.specs.Prelude.{◌≡◌, ◌≢◌, ◌≤◌, ◌+◌, ℕ, List, length, true, false, ⊤, Option, Some, None, Result, Ok, Err, IsOk, IsSome, MatchOption}
use Rattle.pol_fields.specs.declared.Fault.{Fault}
use Rattle.pol_file.specs.Acceptance.{accept}
use Rattle.pol_file.specs.declared.Parts.{Parts}
use Rattle.se_outside.specs.Outside.{Rose, SinkState, SlotState, World, told, IsAsked}
use Rattle.se_outside.specs.Patterns.{PatternsState}
use Rattle.se_outside.specs.declared.Slot.{Slot}
use Rattle.se_outside.specs.declared.Slot.TheVariants.{Policy, Map, List as Checklist}
use Rattle.se_options.specs.Request.{About, Asks, Question}
use Rattle.se_search.specs.SearchPatterns.{TriesPatterns}
use Rattle.se_status.specs.declared.Status.{Status}
use Rattle.se_status.specs.declared.Status.TheVariants.{Done, Usage, ReadFault, TooLarge, BadPolicy, BadMap, BadList, CannotHold, UnknownName, WriteFault, Memory}
use Rattle.se_status.specs.Conclusion.{Answer, Meets, WritesNothing}
use Rattle.se_tools.specs.declared.reading.ReadEnd.{ReadEnd}
use Rattle.se_tools.specs.declared.reading.ReadEnd.TheVariants as ends
use Rattle.se_tools.specs.Answer.{Contents, answer_of, asked_name, asked_patterns, asked_version, by_file, file_limit, name_in, patterns_in, policy_answer, version_in}

-- Of each file that is asked for it is told what it holds, or that it is not there.
abbrev pub Tells : World → Result Asks ℕ → Contents → Type 0
Tells world request contents = (slot : Slot) → MatchOption (asked_name request slot) ⊤ (λ name. told world slot name ≡ Some (contents slot))

-- The status speaks of the words' own misfit, or of what they ask for.
abbrev pub IsAbout : Result Asks ℕ → Status → Type 0
IsAbout request (Usage word) = request ≡ Err word
IsAbout request (ReadFault slot) = IsSome (asked_name request slot)
IsAbout request (TooLarge slot) = IsSome (asked_name request slot)
IsAbout request (BadMap fault) = IsSome (asked_name request Map)
IsAbout request (BadList fault) = IsSome (asked_name request Checklist)
IsAbout request (CannotHold version unheld) = asked_version request ≡ Some version
IsAbout request Memory = ⊤
IsAbout request status = IsOk request

-- A slot was asked under the name.
abbrev pub WasAsked : World → Slot → List ℕ → SlotState → Type 0
WasAsked world slot name state = (state.asked ≡ true) × IsAsked (told world slot name) state.name name

-- The policy was asked for under the name, unless the run is out of memory, which may not have come to it.
abbrev pub IsAskedFirst : World → List ℕ → Status → SlotState → Type 0
IsAskedFirst world name Memory new = new.asked ≡ true → IsAsked (told world Policy name) new.name name
IsAskedFirst world name status new = WasAsked world Policy name new

-- So was another file, but only once the policy was accepted.
abbrev pub IsAskedNext : World → Slot → List ℕ → Status → SlotState → SlotState → Type 0
IsAskedNext world slot name (ReadFault Policy) old new = new ≡ old
IsAskedNext world slot name (TooLarge Policy) old new = new ≡ old
IsAskedNext world slot name (BadPolicy fault) old new = new ≡ old
IsAskedNext world slot name Memory old new = new.asked ≡ true → IsAsked (told world slot name) new.name name
IsAskedNext world slot name status old new = WasAsked world slot name new

-- Each file but the policy for which there is a name was asked for so, and no other one was touched.
abbrev pub AsksOthers : World → (Slot → Option (List ℕ)) → Status → (Slot → SlotState) → (Slot → SlotState) → Type 0
AsksOthers world names status old new =
    (slot : Slot) → slot ≢ Policy → MatchOption (names slot) (new slot ≡ old slot) (λ name. IsAskedNext world slot name status (old slot) (new slot))

-- Each slot whose file is asked for was asked under its name, and no other slot was touched.
pub record AsksOnly (world : World) (request : Result Asks ℕ) (status : Status) (old new : Slot → SlotState) : Type 0 where
  pub first : MatchOption (asked_name request Policy) (new Policy ≡ old Policy) (λ name. IsAskedFirst world name status (new Policy))
  pub others : AsksOthers world (asked_name request) status old new

-- What a name holds, where it is told, is a policy that is accepted.
abbrev pub HoldsPolicy : Option (Option (List ℕ)) → Type 0
HoldsPolicy None = ⊤
HoldsPolicy (Some None) = ⊥
HoldsPolicy (Some (Some bytes)) = (length bytes ≤ file_limit Policy) × IsOk (accept bytes)

-- The words name such a policy.
abbrev pub IsAccepted : World → Result Asks ℕ → Type 0
IsAccepted world request = MatchOption (asked_name request Policy) ⊥ (λ name. HoldsPolicy (told world Policy name))

-- What a run acts on, as it stands before or after it: the files, what builds patterns, and the sink.
pub record Outside : Type 0 where
  pub files : Slot → SlotState
  pub patterns : PatternsState
  pub sink : SinkState

abbrev pub outside : (Slot → SlotState) → PatternsState → SinkState → Outside
outside files patterns sink = record { files = files; patterns = patterns; sink = sink }

-- How a run ends but for its message: what it does to the files, to the patterns and to the sink, and with which status. A file besides
-- the policy is asked for only where that is accepted.
pub record Answers (request : Result Asks ℕ) (world : World) (old new : Outside) (status : Status) : Type 0 where
  pub meets : (contents : Contents) → Tells world request contents → Meets (answer_of request contents) old.sink new.sink status
  pub about : IsAbout request status
  pub silent : WritesNothing old.sink new.sink status
  pub asked : AsksOnly world request status old.files new.files
  pub turns : (slot : Slot) → (new.files slot).turns ≤ (old.files slot).turns + file_limit slot + 2
  pub read : (slot : Slot) → status ≡ ReadFault slot → Rose (old.files slot).faults (new.files slot).faults
  pub accepted : (slot : Slot) → slot ≢ Policy → (new.files slot).asked ≡ true → IsAccepted world request
  pub patterns : TriesPatterns (asked_patterns request) old.patterns new.patterns status
  pub wrote : status ≡ WriteFault → Rose old.sink.faults new.sink.faults
  pub later : old.sink.faults ≤ new.sink.faults

-- how a run ends that did not read the file of a slot whole
abbrev pub unread_status : Slot → ReadEnd → Status
unread_status slot ends.Fault = ReadFault slot
unread_status slot ends.TooLarge = TooLarge slot
unread_status slot ends.Memory = Memory

-- What a policy that was read can end with, and what its question asks for.
abbrev pub IsSettled : Question → Status → Type 0
IsSettled question (Usage word) = ⊥
IsSettled question (ReadFault slot) = (slot ≢ Policy) × IsSome (name_in question slot)
IsSettled question (TooLarge slot) = (slot ≢ Policy) × IsSome (name_in question slot)
IsSettled question (BadMap fault) = IsSome (name_in question Map)
IsSettled question (BadList fault) = IsSome (name_in question Checklist)
IsSettled question (CannotHold version unheld) = version_in question ≡ Some version
IsSettled question status = ⊤

-- No file but the policy was asked for.
abbrev pub NoOtherAsked : (Slot → SlotState) → Type 0
NoOtherAsked state = (slot : Slot) → slot ≢ Policy → (state slot).asked ≡ false

-- What a run does to the files once the policy was read: it asks for those others for which there are names.
pub record AsksNext (world : World) (names : Slot → Option (List ℕ)) (status : Status) (old new : Slot → SlotState) : Type 0 where
  pub policy : new Policy ≡ old Policy
  pub others : AsksOthers world names status old new
  pub turns : (slot : Slot) → (new slot).turns ≤ (old slot).turns + file_limit slot + 2
  pub read : (slot : Slot) → status ≡ ReadFault slot → Rose (old slot).faults (new slot).faults

-- How a run ends whose policy was read, and accepted or not: the answer about it is that about the files that are told.
pub record Settles (question : Question) (outcome : Result Parts Fault) (world : World) (old new : Outside) (status : Status) : Type 0 where
  pub meets : (contents : Contents) → Tells world (Ok (About question)) contents → Meets (policy_answer question outcome contents) old.sink new.sink status
  pub about : IsSettled question status
  pub silent : WritesNothing old.sink new.sink status
  pub files : AsksNext world (name_in question) status old.files new.files
  pub accepted : (slot : Slot) → slot ≢ Policy → (new.files slot).asked ≡ true → IsOk outcome
  pub patterns : TriesPatterns (patterns_in question) old.patterns new.patterns status
  pub wrote : status ≡ WriteFault → Rose old.sink.faults new.sink.faults
  pub later : old.sink.faults ≤ new.sink.faults

-- What a request for the file of a slot besides an accepted policy ends with.
abbrev pub IsOfFile : Slot → Status → Type 0
IsOfFile slot Done = ⊤
IsOfFile slot (ReadFault own) = own ≡ slot
IsOfFile slot (TooLarge own) = own ≡ slot
IsOfFile slot (BadMap fault) = slot ≡ Map
IsOfFile slot (UnknownName word) = slot ≡ Map
IsOfFile slot (BadList fault) = slot ≡ Checklist
IsOfFile slot WriteFault = ⊤
IsOfFile slot Memory = ⊤
IsOfFile slot status = ⊥

-- What it does to the files: the slot was asked under the name, and no other one was touched.
pub record AsksFile (world : World) (slot : Slot) (name : List ℕ) (status : Status) (old new : Slot → SlotState) : Type 0 where
  pub others : (other : Slot) → other ≢ slot → new other ≡ old other
  pub asked : IsAskedNext world slot name status (old slot) (new slot)
  pub turns : (new slot).turns ≤ (old slot).turns + file_limit slot + 2
  pub read : status ≡ ReadFault slot → Rose (old slot).faults (new slot).faults

-- How it ends: the answer is that about the file that is told, or told not to be there.
pub record FileSettles (slot : Slot) (name : List ℕ) (answer : List ℕ → Answer) (world : World) (files_old files_new : Slot → SlotState) (old new : SinkState) (status : Status) : Type 0 where
  pub meets : (held : Option (List ℕ)) → told world slot name ≡ Some held → Meets (by_file slot held answer) old new status
  pub about : IsOfFile slot status
  pub silent : WritesNothing old new status
  pub files : AsksFile world slot name status files_old files_new
  pub wrote : status ≡ WriteFault → Rose old.faults new.faults
  pub later : old.faults ≤ new.faults
