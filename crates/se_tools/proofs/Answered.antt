-- From a file that was read whole, or not, to the answer about it.
use Rattle.std.proofs.Common.{◌≡◌, ◌≢◌, ◌≤◌, ◌<◌, ◌+◌, ℕ, List, [], length, true, false, Option, Some, None, Result, Ok, Err, Vec, nat_lt, refl, subst, sym, ap, append-nil, arith}
use Rattle.std.specs.Global.{Global}
use Rattle.std.specs.Prelude.{IsOk, MatchOption}
use Rattle.std.proofs.lemmas.Bool.{ltb-true}
use Rattle.pol_file.specs.Acceptance.{accept}
use Rattle.rule_query.specs.GivenCriteria.{Given}
use Rattle.rule_query.specs.AskedPatterns.{AskedFor}
use Rattle.se_outside.specs.Outside.{IsAsked, NoneAsked, Rose, SinkState, SlotState, World, told}
use Rattle.se_outside.specs.Patterns.{PatternsState}
use Rattle.se_outside.specs.declared.Slot.{Slot}
use Rattle.se_outside.specs.declared.Slot.TheVariants.{Policy, Map, List as Checklist}
use Rattle.se_options.specs.Request.{About, Asks, Question, policy_of}
use Rattle.se_items.specs.Writing.{GainsPart}
use Rattle.se_items.proofs.Gains.{gains-none}
use Rattle.se_search.specs.SearchPatterns.{TriedUntil, TriesPatterns}
use Rattle.se_status.specs.declared.Status.{Status}
use Rattle.se_status.specs.declared.Status.TheVariants.{Done, Usage, ReadFault, TooLarge, BadPolicy, BadMap, BadList, CannotHold, UnknownName, BadNumber, BadPattern, WriteFault, Memory}
use Rattle.se_status.specs.Conclusion.{Answer, Meets, WritesNothing, refusal}
use Rattle.se_tools.specs.Answer.{asked_name, asked_patterns, by_file, file_limit, name_in, patterns_in, policy_answer}
use Rattle.se_tools.specs.Answers.{Answers, AsksNext, AsksOnly, HoldsPolicy, IsAbout, IsAskedFirst, IsAskedNext, IsSettled, Outside, Settles, unread_status}
use Rattle.se_tools.specs.Reading.{ReadsWhole}
use Rattle.se_tools.specs.declared.reading.ReadEnd.{ReadEnd}
use Rattle.se_tools.specs.declared.reading.ReadEnd.TheVariants as ends

-- ---- a file within its limit

below : (a b : ℕ) → b ≤ a → nat_lt a b ≡ false
below a b le = grind (arith, ltb-true)

above : (a b : ℕ) → a < b → nat_lt a b ≡ true
above a b lt = grind (arith, ltb-true)

within-few : (slot : Slot) (bytes : List ℕ) (answer : List ℕ → Answer) → length bytes ≤ file_limit slot → by_file slot (Some bytes) answer ≡ answer bytes
unfolding by_file
within-few slot bytes answer le = rw (below (file_limit slot) (length bytes) le) refl

within-many : (slot : Slot) (bytes : List ℕ) (answer : List ℕ → Answer) → file_limit slot < length bytes → by_file slot (Some bytes) answer ≡ refusal (TooLarge slot)
unfolding by_file
within-many slot bytes answer lt = rw (above (file_limit slot) (length bytes) lt) refl

-- The answer by the bytes that were read.
pub by_file-read : (world : World) (old new : Slot → SlotState) (slot : Slot) (name : List ℕ) (v : Vec ℕ Global) (held : Option (List ℕ)) (answer : List ℕ → Answer)
    → ReadsWhole world old new slot name (file_limit slot) (Ok v) → told world slot name ≡ Some held → by_file slot held answer ≡ answer v.items
by_file-read world old new slot name v None answer reads tells = absurd (let e = reads.absent tells in cc)
by_file-read world old new slot name v (Some bytes) answer reads tells = let same = reads.content bytes tells in rw (← same) (within-few slot v.items answer reads.within)

-- The answer where more was read than the limit.
pub by_file-large : (world : World) (old new : Slot → SlotState) (slot : Slot) (name : List ℕ) (held : Option (List ℕ)) (answer : List ℕ → Answer)
    → ReadsWhole world old new slot name (file_limit slot) (Err ends.TooLarge) → told world slot name ≡ Some held → by_file slot held answer ≡ refusal (TooLarge slot)
by_file-large world old new slot name None answer reads tells = absurd (let e = reads.absent tells in cc)
by_file-large world old new slot name (Some bytes) answer reads tells = within-many slot bytes answer (reads.content bytes tells refl)

-- ---- a file that was not read

pub part-none : (sink : SinkState) (text : List ℕ) → GainsPart sink.written sink.written text
part-none sink text = ([], text, refl, gains-none sink.written)

-- The answer by a file that was not read whole.
pub unread-meets : (world : World) (old new : Slot → SlotState) (slot : Slot) (name : List ℕ) (end : ReadEnd) (held : Option (List ℕ)) (answer : List ℕ → Answer) (sink : SinkState)
    → ReadsWhole world old new slot name (file_limit slot) (Err end) → told world slot name ≡ Some held → Meets (by_file slot held answer) sink sink (unread_status slot end)
unread-meets world old new slot name ends.Fault held answer sink reads tells = gains-none sink.written
unread-meets world old new slot name ends.TooLarge held answer sink reads tells = rw (by_file-large world old new slot name held answer reads tells) (refl, gains-none sink.written)
unread-meets world old new slot name ends.Memory held answer sink reads tells = part-none sink _

pub unread-silent : (slot : Slot) (end : ReadEnd) (sink : SinkState) → WritesNothing sink sink (unread_status slot end)
unread-silent slot ends.Fault sink = gains-none sink.written
unread-silent slot ends.TooLarge sink = gains-none sink.written
unread-silent slot ends.Memory sink = tt

pub unread-wrote : (slot : Slot) (end : ReadEnd) → unread_status slot end ≡ WriteFault → ⊥
unread-wrote slot ends.Fault e = cc e
unread-wrote slot ends.TooLarge e = cc e
unread-wrote slot ends.Memory e = cc e

-- A read failed only where the count of the slot's faults rose.
pub unread-fault : (world : World) (old new : Slot → SlotState) (slot own : Slot) (name : List ℕ) (end : ReadEnd) → ReadsWhole world old new slot name (file_limit slot) (Err end)
    → unread_status slot end ≡ ReadFault own → Rose (old own).faults (new own).faults
unread-fault world old new slot own name ends.Fault reads e = let same : slot ≡ own = ap (λ (s : Status). slot-of slot s) e in rw same at reads.fault refl
  where
    slot-of : Slot → Status → Slot
    slot-of other (ReadFault slot) = slot
    slot-of other status = other
unread-fault world old new slot own name ends.TooLarge reads e = absurd (cc e)
unread-fault world old new slot own name ends.Memory reads e = absurd (cc e)

-- ---- slots and their names

pub other-map : Map ≢ Policy
other-map e = cc

pub other-list : Checklist ≢ Policy
other-list e = cc

-- what is the same, whether a name is asked for or not
pub untouched : (name : Option (List ℕ)) (P : Type 0) → P → MatchOption name P (λ _. P)
untouched None P p = p
untouched (Some name) P p = p

-- the policy was asked under its name
asked-first : (world : World) (name : List ℕ) (status : Status) (new : SlotState) → new.asked ≡ true → IsAsked (told world Policy name) new.name name → IsAskedFirst world name status new
asked-first world name Done new asked named = (asked, named)
asked-first world name (Usage word) new asked named = (asked, named)
asked-first world name (ReadFault slot) new asked named = (asked, named)
asked-first world name (TooLarge slot) new asked named = (asked, named)
asked-first world name (BadPolicy fault) new asked named = (asked, named)
asked-first world name (BadMap fault) new asked named = (asked, named)
asked-first world name (BadList fault) new asked named = (asked, named)
asked-first world name (CannotHold version unheld) new asked named = (asked, named)
asked-first world name (UnknownName word) new asked named = (asked, named)
asked-first world name (BadNumber word) new asked named = (asked, named)
asked-first world name (BadPattern word kind) new asked named = (asked, named)
asked-first world name WriteFault new asked named = (asked, named)
asked-first world name Memory new asked named = λ _. named

-- ---- patterns that were not tried

asked-none : (old : Option (List (List ℕ))) → AskedFor old old []
asked-none None = tt
asked-none (Some had) = ap Some (sym (append-nil had))

pub untried : (words : List Given) (patterns : PatternsState) (status : Status) → TriedUntil [] words patterns.refusals patterns.refusals status → TriesPatterns words patterns patterns status
untried words patterns status until = record { tried = []; others = words; order = refl; asked = asked-none patterns.asked; until = until; later = omega arith }

-- ---- the status of a policy that was read

settled-about : (asks : Question) (status : Status) → IsSettled asks status → IsAbout (Ok (About asks)) status
settled-about asks Done h = refl
settled-about asks (Usage word) h = absurd h
settled-about asks (ReadFault slot) (other, some) = some
settled-about asks (TooLarge slot) (other, some) = some
settled-about asks (BadPolicy fault) h = refl
settled-about asks (BadMap fault) h = h
settled-about asks (BadList fault) h = h
settled-about asks (CannotHold version unheld) h = h
settled-about asks (UnknownName word) h = refl
settled-about asks (BadNumber word) h = refl
settled-about asks (BadPattern word kind) h = refl
settled-about asks WriteFault h = refl
settled-about asks Memory h = tt

-- ---- what is left where no other file was asked for

-- The policy of a name was read, and nothing else was asked for.
Reads : List ℕ → World → (Slot → SlotState) → (Slot → SlotState) → Result (Vec ℕ Global) ReadEnd → Type 0
Reads name world old new result = ReadsWhole world old new Policy name (file_limit Policy) result

others-turns : (name : List ℕ) (world : World) (old new : Slot → SlotState) (result : Result (Vec ℕ Global) ReadEnd) → Reads name world old new result
    → (slot : Slot) → (new slot).turns ≤ (old slot).turns + file_limit slot + 2
unfolding Reads
others-turns name world old new result reads Policy = reads.turns
others-turns name world old new result reads Map = rw (reads.others Map other-map) (omega arith)
others-turns name world old new result reads Checklist = rw (reads.others Checklist other-list) (omega arith)

-- a slot that was not asked, when memory ran out
pub unasked-memory : (world : World) (name : Option (List ℕ)) (slot : Slot) (state : SlotState) → state.asked ≡ false → MatchOption name (state ≡ state) (λ name. IsAskedNext world slot name Memory state state)
unasked-memory world None slot state unasked = refl
unasked-memory world (Some name) slot state unasked = λ asked. absurd (cc (unasked, asked))

unasked-first : (world : World) (name : Option (List ℕ)) (state : SlotState) → state.asked ≡ false → MatchOption name (state ≡ state) (λ name. IsAskedFirst world name Memory state)
unasked-first world None state unasked = refl
unasked-first world (Some name) state unasked = λ asked. absurd (cc (unasked, asked))

-- a slot that was not asked, since the policy was not read
others-unread : (world : World) (name : Option (List ℕ)) (slot : Slot) (end : ReadEnd) (state : SlotState) → state.asked ≡ false
    → MatchOption name (state ≡ state) (λ name. IsAskedNext world slot name (unread_status Policy end) state state)
others-unread world name slot ends.Fault state unasked = untouched name (state ≡ state) refl
others-unread world name slot ends.TooLarge state unasked = untouched name (state ≡ state) refl
others-unread world name slot ends.Memory state unasked = unasked-memory world name slot state unasked

pub not-asked : (old new : SlotState) → old.asked ≡ false → new ≡ old → new.asked ≡ true → ⊥
not-asked old new unasked same asked = let e = ap (λ (s : SlotState). s.asked) same in cc

-- ---- nothing was asked for

-- The words do not fit.
pub answers-usage : (word : ℕ) (world : World) (old : Outside) → NoneAsked old.files → Answers (Err word) world old old (Usage word)
answers-usage word world old unasked = record {
  meets = λ contents tells. (refl, gains-none old.sink.written);
  about = refl;
  silent = gains-none old.sink.written;
  asked = record { first = refl; others = λ slot other. refl };
  turns = λ slot. omega arith;
  read = λ slot e. absurd (cc e);
  accepted = λ slot other e. cc (unasked slot, e);
  patterns = untried [] old.patterns (Usage word) refl;
  wrote = λ e. absurd (cc e);
  later = omega arith;
}

-- Memory ran out over the words.
pub answers-nothing : (request : Result Asks ℕ) (world : World) (old : Outside) → NoneAsked old.files → Answers request world old old Memory
answers-nothing request world old unasked = record {
  meets = λ contents tells. part-none old.sink _;
  about = tt;
  silent = tt;
  asked = record {
    first = unasked-first world (asked_name request Policy) (old.files Policy) (unasked Policy);
    others = λ slot other. unasked-memory world (asked_name request slot) slot (old.files slot) (unasked slot);
  };
  turns = λ slot. omega arith;
  read = λ slot e. absurd (cc e);
  accepted = λ slot other e. absurd (cc (unasked slot, e));
  patterns = untried (asked_patterns request) old.patterns Memory tt;
  wrote = λ e. absurd (cc e);
  later = omega arith;
}

-- ---- the policy was not read

unread-about : (asks : Question) (end : ReadEnd) → IsAbout (Ok (About asks)) (unread_status Policy end)
unread-about asks ends.Fault = refl
unread-about asks ends.TooLarge = refl
unread-about asks ends.Memory = tt

unread-until : (words : List Given) (end : ReadEnd) (past : ℕ) → TriedUntil [] words past past (unread_status Policy end)
unread-until words ends.Fault past = refl
unread-until words ends.TooLarge past = refl
unread-until words ends.Memory past = tt

pub answers-unread : (asks : Question) (world : World) (old : Outside) (files : Slot → SlotState) (end : ReadEnd) → NoneAsked old.files
    → ReadsWhole world old.files files Policy (policy_of asks).text (file_limit Policy) (Err end) → Answers (Ok (About asks)) world old (record old { files = files }) (unread_status Policy end)
unfolding Reads
answers-unread asks world old files end unasked reads = record {
  meets = λ contents tells.
      unread-meets world old.files files Policy (policy_of asks).text end (contents Policy) (λ bytes. policy_answer asks (accept bytes) contents) old.sink reads (tells Policy);
  about = unread-about asks end;
  silent = unread-silent Policy end old.sink;
  asked = record {
    first = asked-first world (policy_of asks).text (unread_status Policy end) (files Policy) reads.asked reads.named;
    others = λ slot other. rw (reads.others slot other) (others-unread world (name_in asks slot) slot end (old.files slot) (unasked slot));
  };
  turns = others-turns (policy_of asks).text world old.files files _ reads;
  read = λ slot. unread-fault world old.files files Policy slot (policy_of asks).text end reads;
  accepted = λ slot other e. absurd (not-asked (old.files slot) (files slot) (unasked slot) (reads.others slot other) e);
  patterns = untried (patterns_in asks) old.patterns (unread_status Policy end) (unread-until (patterns_in asks) end old.patterns.refusals);
  wrote = λ e. absurd (unread-wrote Policy end e);
  later = omega arith;
}

-- ---- the policy was read

within-asked : (asks : Question) (world : World) (old mid new : Slot → SlotState) (v : Vec ℕ Global) (status : Status) → Reads (policy_of asks).text world old mid (Ok v) → AsksNext world (name_in asks) status mid new
    → AsksOnly world (Ok (About asks)) status old new
unfolding Reads
within-asked asks world old mid new v status reads files = record {
  first = rw files.policy (asked-first world (policy_of asks).text status (mid Policy) reads.asked reads.named);
  others = λ slot other.
      subst (λ (s : SlotState). MatchOption (name_in asks slot) (new slot ≡ s) (λ name. IsAskedNext world slot name status s (new slot))) (reads.others slot other) (files.others slot other);
}

within-turns : (asks : Question) (world : World) (old mid new : Slot → SlotState) (v : Vec ℕ Global) (status : Status) → Reads (policy_of asks).text world old mid (Ok v) → AsksNext world (name_in asks) status mid new
    → (slot : Slot) → (new slot).turns ≤ (old slot).turns + file_limit slot + 2
unfolding Reads
within-turns asks world old mid new v status reads files Policy = rw files.policy reads.turns
within-turns asks world old mid new v status reads files Map = let turns = files.turns Map in rw (reads.others Map other-map) at turns
within-turns asks world old mid new v status reads files Checklist = let turns = files.turns Checklist in rw (reads.others Checklist other-list) at turns

settled-fault : (asks : Question) (status : Status) (slot : Slot) → IsSettled asks status → status ≡ ReadFault slot → slot ≢ Policy
settled-fault asks status slot settled e = (rw e at settled).0

within-read : (asks : Question) (world : World) (old mid new : Slot → SlotState) (v : Vec ℕ Global) (status : Status) → Reads (policy_of asks).text world old mid (Ok v) → AsksNext world (name_in asks) status mid new → IsSettled asks status
    → (slot : Slot) → status ≡ ReadFault slot → Rose (old slot).faults (new slot).faults
unfolding Reads
within-read asks world old mid new v status reads files settled slot e = let rose = files.read slot e in rw (reads.others slot (settled-fault asks status slot settled e)) at rose

-- what is told of the bytes that were read, which are accepted
holds-policy : (held : Option (Option (List ℕ))) (items : List ℕ) → (held ≡ Some None → ⊥) → ((bytes : List ℕ) → held ≡ Some (Some bytes) → items ≡ bytes) → length items ≤ file_limit Policy → IsOk (accept items)
    → HoldsPolicy held
holds-policy None items there same few ok = tt
holds-policy (Some None) items there same few ok = there refl
holds-policy (Some (Some bytes)) items there same few ok = rw (← same bytes refl) (few, ok)

-- The answer about what was read.
pub answers-within : (asks : Question) (world : World) (old new : Outside) (files : Slot → SlotState) (v : Vec ℕ Global) (status : Status)
    → ReadsWhole world old.files files Policy (policy_of asks).text (file_limit Policy) (Ok v) → Settles asks (accept v.items) world (record old { files = files }) new status
    → Answers (Ok (About asks)) world old new status
unfolding Reads
answers-within asks world old new files v status reads settles = record {
  meets = λ contents tells.
      rw (by_file-read world old.files files Policy (policy_of asks).text v (contents Policy) (λ bytes. policy_answer asks (accept bytes) contents) reads (tells Policy)) (settles.meets contents tells);
  about = settled-about asks status settles.about;
  silent = settles.silent;
  asked = within-asked asks world old.files files new.files v status reads settles.files;
  turns = within-turns asks world old.files files new.files v status reads settles.files;
  read = within-read asks world old.files files new.files v status reads settles.files settles.about;
  accepted = λ slot other e.
      holds-policy (told world Policy (policy_of asks).text) v.items (λ none. absurd (let e = reads.absent none in cc)) reads.content reads.within (settles.accepted slot other e);
  patterns = settles.patterns;
  wrote = settles.wrote;
  later = settles.later;
}
