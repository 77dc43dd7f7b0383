-- From the answer of a tool to that about a policy that was read.
use Rattle.std.proofs.Common.{◌≡◌, ◌≢◌, ℕ, List, [], true, Option, Some, None, Result, Ok, Err, Vec, inl, inr, ◌⊎◌, refl, sym, ap, arith}
use Rattle.std.specs.Prelude.{⊤, IsSome}
use Rattle.std.specs.Global.{Global}
use Rattle.pol_fields.specs.declared.Fault.{Fault}
use Rattle.pol_file.specs.declared.Parts.{Parts}
use Rattle.pol_tree.specs.declared.Tree.{Tree}
use Rattle.pol_unheld.specs.declared.Unheld.{Unheld}
use Rattle.se_outside.specs.Outside.{IsAsked, NoneAsked, SinkState, SlotState, World, told}
use Rattle.se_outside.specs.Patterns.{PatternsState}
use Rattle.se_outside.specs.declared.Slot.{Slot}
use Rattle.se_outside.specs.declared.Slot.TheVariants.{Policy, Map, List as Checklist}
use Rattle.se_options.specs.InfoRequest.{InfoAsks}
use Rattle.se_options.specs.SearchRequest.{SearchAsks}
use Rattle.se_options.specs.DomRequest.{DomAsks}
use Rattle.se_options.specs.FlowRequest.{FlowAsks}
use Rattle.se_options.specs.ConvertRequest.{ConvertAsks}
use Rattle.se_options.specs.CheckRequest.{CheckAsks}
use Rattle.se_options.specs.MakeRequest.{MakeAsks}
use Rattle.se_options.specs.Request.{About, Check, Convert, Dom, Flow, Info, Make, Question, Search}
use Rattle.se_items.proofs.Gains.{gains-none}
use Rattle.se_search.specs.SearchAnswer.{search_answer}
use Rattle.se_search.specs.SearchPatterns.{IsOfSearch, TriedUntil, TriesPatterns, pattern_words}
use Rattle.se_dom.specs.DomAnswer.{dom_answer}
use Rattle.se_flow.specs.FlowAnswer.{IsOfMap, flow_answer}
use Rattle.se_convert.specs.ConvertAnswer.{IsConversion, convert_answer, held}
use Rattle.se_verdicts.specs.CheckAnswer.{IsOfList, check_answer}
use Rattle.se_make.specs.MakeAnswer.{make_answer}
use Rattle.se_status.specs.declared.Status.{Status}
use Rattle.se_status.specs.declared.Status.TheVariants.{Done, Usage, ReadFault, TooLarge, BadPolicy, BadMap, BadList, CannotHold, UnknownName, BadNumber, BadPattern, WriteFault, Memory}
use Rattle.se_status.specs.Conclusion.{Answer, Concludes, IsPlain, IsWritten}
use Rattle.se_tools.specs.Answer.{Contents, answer_about, by_file, file_limit, name_in, patterns_in}
use Rattle.se_tools.specs.Answers.{Answers, AsksFile, AsksNext, FileSettles, IsAbout, IsAskedNext, IsOfFile, IsSettled, NoOtherAsked, Outside, Settles, Tells, outside, unread_status}
use Rattle.se_info.specs.InfoAnswer.{info_answer}
use Rattle.se_tools.specs.Reading.{ReadsWhole}
use Rattle.se_tools.specs.declared.reading.ReadEnd.{ReadEnd}
use Rattle.se_tools.specs.declared.reading.ReadEnd.TheVariants as ends
use Rattle.se_tools.proofs.Answered.{by_file-read, other-list, other-map, part-none, unasked-memory, unread-fault, unread-meets, unread-silent, unread-wrote, untouched, untried}

-- ---- tools that ask for no further file, and build no pattern

-- What they end with.
abbrev IsAlone : Status → Type 0
IsAlone Done = ⊤
IsAlone (CannotHold version unheld) = ⊤
IsAlone (UnknownName word) = ⊤
IsAlone WriteFault = ⊤
IsAlone Memory = ⊤
IsAlone status = ⊥

alone-until : (status : Status) (past : ℕ) → IsAlone status → TriedUntil [] [] past past status
alone-until Done past h = (refl, λ k d lt. absurd (omega (arith, lt)))
alone-until (Usage word) past h = absurd h
alone-until (ReadFault slot) past h = absurd h
alone-until (TooLarge slot) past h = absurd h
alone-until (BadPolicy fault) past h = absurd h
alone-until (BadMap fault) past h = absurd h
alone-until (BadList fault) past h = absurd h
alone-until (CannotHold version unheld) past h = refl
alone-until (UnknownName word) past h = (λ k d lt. absurd (omega (arith, lt)), λ k d lt. absurd (omega (arith, lt)), λ k d lt. absurd (omega (arith, lt)))
alone-until (BadNumber word) past h = absurd h
alone-until (BadPattern word kind) past h = absurd h
alone-until WriteFault past h = (refl, λ k d lt. absurd (omega (arith, lt)))
alone-until Memory past h = tt

alone-no-fault : (status : Status) (slot : Slot) → IsAlone status → status ≡ ReadFault slot → ⊥
alone-no-fault status slot h e = rw e at h

-- nothing was done to the files, and no other was asked for
no-others : (world : World) (names : Slot → Option (List ℕ)) (status : Status) (files : Slot → SlotState) → ((slot : Slot) → slot ≢ Policy → names slot ≡ None)
    → ((slot : Slot) → status ≡ ReadFault slot → ⊥) → AsksNext world names status files files
no-others world names status files none fault = record {
  policy = refl;
  others = λ slot other. rw (none slot other) refl;
  turns = λ slot. omega arith;
  read = λ slot e. absurd (fault slot e);
}

-- a question that names no other file
record NamesNone (asks : Question) : Type 0 where
  names : (slot : Slot) → slot ≢ Policy → name_in asks slot ≡ None

names-none : (asks : Question) → name_in asks Map ≡ None → name_in asks Checklist ≡ None → NamesNone asks
names-none asks map list = record { names = each }
  where
    each : (slot : Slot) → slot ≢ Policy → name_in asks slot ≡ None
    each Policy other = absurd (other refl)
    each Map other = map
    each Checklist other = list

alone-settles : (asks : Question) (answer : Answer) (policy : Parts) (world : World) (files : Slot → SlotState) (patterns : PatternsState) (old new : SinkState) (status : Status)
    → NamesNone asks → patterns_in asks ≡ [] → ((contents : Contents) → answer_about asks policy contents ≡ answer)
    → Concludes answer old new status → IsAlone status → IsSettled asks status → Settles asks (Ok policy) world (outside files patterns old) (outside files patterns new) status
alone-settles asks answer policy world files patterns old new status none untold is concludes alone settled = record {
  meets = λ contents tells. rw (is contents) concludes.meets;
  about = settled;
  silent = concludes.silent;
  files = no-others world (name_in asks) status files none.names (λ slot. alone-no-fault status slot alone);
  accepted = λ slot other e. refl;
  patterns = rw untold (untried [] patterns status (alone-until status patterns.refusals alone));
  wrote = concludes.wrote;
  later = concludes.later;
}

plain-alone : (status : Status) → IsPlain status → IsAlone status
plain-alone Done h = tt
plain-alone (Usage word) h = h
plain-alone (ReadFault slot) h = h
plain-alone (TooLarge slot) h = h
plain-alone (BadPolicy fault) h = h
plain-alone (BadMap fault) h = h
plain-alone (BadList fault) h = h
plain-alone (CannotHold version unheld) h = absurd h
plain-alone (UnknownName word) h = tt
plain-alone (BadNumber word) h = h
plain-alone (BadPattern word kind) h = h
plain-alone WriteFault h = tt
plain-alone Memory h = tt

plain-settled : (asks : Question) (status : Status) → IsPlain status → IsSettled asks status
plain-settled asks Done h = tt
plain-settled asks (Usage word) h = h
plain-settled asks (ReadFault slot) h = absurd h
plain-settled asks (TooLarge slot) h = absurd h
plain-settled asks (BadPolicy fault) h = tt
plain-settled asks (BadMap fault) h = absurd h
plain-settled asks (BadList fault) h = absurd h
plain-settled asks (CannotHold version unheld) h = absurd h
plain-settled asks (UnknownName word) h = tt
plain-settled asks (BadNumber word) h = tt
plain-settled asks (BadPattern word kind) h = tt
plain-settled asks WriteFault h = tt
plain-settled asks Memory h = tt

pub info-settles : (asks : InfoAsks) (policy : Parts) (world : World) (files : Slot → SlotState) (patterns : PatternsState) (old new : SinkState) (status : Status)
    → Concludes (info_answer asks policy) old new status → IsPlain status → Settles (Info asks) (Ok policy) world (outside files patterns old) (outside files patterns new) status
info-settles asks policy world files patterns old new status concludes plain =
    alone-settles (Info asks) (info_answer asks policy) policy world files patterns old new status (names-none (Info asks) refl refl) refl (λ contents. refl) concludes
    (plain-alone status plain) (plain-settled (Info asks) status plain)

pub dom-settles : (asks : DomAsks) (policy : Parts) (world : World) (files : Slot → SlotState) (patterns : PatternsState) (old new : SinkState) (status : Status)
    → Concludes (dom_answer asks policy) old new status → IsPlain status → Settles (Dom asks) (Ok policy) world (outside files patterns old) (outside files patterns new) status
dom-settles asks policy world files patterns old new status concludes plain =
    alone-settles (Dom asks) (dom_answer asks policy) policy world files patterns old new status (names-none (Dom asks) refl refl) refl (λ contents. refl) concludes
    (plain-alone status plain) (plain-settled (Dom asks) status plain)

-- ---- seconvert

conversion-alone : (status : Status) → IsConversion status → IsAlone status
conversion-alone Done h = tt
conversion-alone (Usage word) h = h
conversion-alone (ReadFault slot) h = h
conversion-alone (TooLarge slot) h = h
conversion-alone (BadPolicy fault) h = h
conversion-alone (BadMap fault) h = h
conversion-alone (BadList fault) h = h
conversion-alone (CannotHold other unheld) h = tt
conversion-alone (UnknownName word) h = absurd h
conversion-alone (BadNumber word) h = h
conversion-alone (BadPattern word kind) h = h
conversion-alone WriteFault h = tt
conversion-alone Memory h = tt

-- the version that cannot hold a policy is the one that was asked for
told-version : (version other : ℕ) (unheld : Unheld) (policy : Parts) → CannotHold other unheld ≡ (convert_answer version policy).status → other ≡ version
unfolding convert_answer
told-version version other unheld policy e = by _ _ e
  where
    version-of : Status → ℕ
    version-of (CannotHold version unheld) = version
    version-of status = 0

    by : (found : Option Unheld) (tree : Tree) → CannotHold other unheld ≡ (held version found tree).status → other ≡ version
    by None tree e = absurd (cc e)
    by (Some found) tree e = ap version-of e

conversion-settled : (asks : ConvertAsks) (status : Status) → IsConversion status → ((other : ℕ) (unheld : Unheld) → status ≡ CannotHold other unheld → other ≡ asks.version) → IsSettled (Convert asks) status
conversion-settled asks Done h told = tt
conversion-settled asks (Usage word) h told = h
conversion-settled asks (ReadFault slot) h told = absurd h
conversion-settled asks (TooLarge slot) h told = absurd h
conversion-settled asks (BadPolicy fault) h told = tt
conversion-settled asks (BadMap fault) h told = absurd h
conversion-settled asks (BadList fault) h told = absurd h
conversion-settled asks (CannotHold version unheld) h told = ap Some (sym (told version unheld refl))
conversion-settled asks (UnknownName word) h told = tt
conversion-settled asks (BadNumber word) h told = tt
conversion-settled asks (BadPattern word kind) h told = tt
conversion-settled asks WriteFault h told = tt
conversion-settled asks Memory h told = tt

pub convert-settles : (asks : ConvertAsks) (policy : Parts) (world : World) (files : Slot → SlotState) (patterns : PatternsState) (old new : SinkState) (status : Status)
    → Concludes (convert_answer asks.version policy) old new status → IsConversion status
    → Settles (Convert asks) (Ok policy) world (outside files patterns old) (outside files patterns new) status
convert-settles asks policy world files patterns old new status concludes conversion =
    alone-settles (Convert asks) (convert_answer asks.version policy) policy world files patterns old new status (names-none (Convert asks) refl refl) refl (λ contents. refl) concludes
    (conversion-alone status conversion) (conversion-settled asks status conversion (λ other unheld e. let meets = concludes.meets in told-version asks.version other unheld policy (rw e at meets).0))

-- ---- make, which asks for no file at all

written-alone : (status : Status) → IsWritten status → IsAlone status
written-alone Done h = tt
written-alone (Usage word) h = h
written-alone (ReadFault slot) h = h
written-alone (TooLarge slot) h = h
written-alone (BadPolicy fault) h = h
written-alone (BadMap fault) h = h
written-alone (BadList fault) h = h
written-alone (CannotHold version unheld) h = absurd h
written-alone (UnknownName word) h = absurd h
written-alone (BadNumber word) h = h
written-alone (BadPattern word kind) h = h
written-alone WriteFault h = tt
written-alone Memory h = tt

written-about : (asks : MakeAsks) (status : Status) → IsWritten status → IsAbout (Ok (Make asks)) status
written-about asks Done h = refl
written-about asks (Usage word) h = absurd h
written-about asks (ReadFault slot) h = absurd h
written-about asks (TooLarge slot) h = absurd h
written-about asks (BadPolicy fault) h = absurd h
written-about asks (BadMap fault) h = absurd h
written-about asks (BadList fault) h = absurd h
written-about asks (CannotHold version unheld) h = absurd h
written-about asks (UnknownName word) h = absurd h
written-about asks (BadNumber word) h = absurd h
written-about asks (BadPattern word kind) h = absurd h
written-about asks WriteFault h = refl
written-about asks Memory h = tt

pub answers-made : (asks : MakeAsks) (world : World) (files : Slot → SlotState) (patterns : PatternsState) (old new : SinkState) (status : Status) → NoneAsked files
    → Concludes (make_answer asks) old new status → IsWritten status → Answers (Ok (Make asks)) world (outside files patterns old) (outside files patterns new) status
answers-made asks world files patterns old new status unasked concludes written = record {
  meets = λ contents tells. concludes.meets;
  about = written-about asks status written;
  silent = concludes.silent;
  asked = record { first = refl; others = λ slot other. refl };
  turns = λ slot. omega arith;
  read = λ slot e. absurd (alone-no-fault status slot (written-alone status written) e);
  accepted = λ slot other e. absurd (cc (unasked slot, e));
  patterns = untried [] patterns status (alone-until status patterns.refusals (written-alone status written));
  wrote = concludes.wrote;
  later = concludes.later;
}

-- ---- sesearch

search-settled : (asks : Question) (status : Status) → IsOfSearch status → IsSettled asks status
search-settled asks Done h = tt
search-settled asks (Usage word) h = h
search-settled asks (ReadFault slot) h = absurd h
search-settled asks (TooLarge slot) h = absurd h
search-settled asks (BadPolicy fault) h = tt
search-settled asks (BadMap fault) h = absurd h
search-settled asks (BadList fault) h = absurd h
search-settled asks (CannotHold version unheld) h = absurd h
search-settled asks (UnknownName word) h = tt
search-settled asks (BadNumber word) h = tt
search-settled asks (BadPattern word kind) h = tt
search-settled asks WriteFault h = tt
search-settled asks Memory h = tt

search-no-fault : (status : Status) (slot : Slot) → IsOfSearch status → status ≡ ReadFault slot → ⊥
search-no-fault status slot h e = rw e at h

pub search-settles : (asks : SearchAsks) (policy : Parts) (world : World) (files : Slot → SlotState) (tried patterns : PatternsState) (old new : SinkState) (status : Status)
    → Concludes (search_answer asks policy) old new status → IsOfSearch status → TriesPatterns (pattern_words asks.criteria) tried patterns status
    → Settles (Search asks) (Ok policy) world (outside files tried old) (outside files patterns new) status
search-settles asks policy world files tried patterns old new status concludes about tries =
    let none = names-none (Search asks) refl refl in
    record {
      meets = λ contents tells. concludes.meets;
      about = search-settled (Search asks) status about;
      silent = concludes.silent;
      files = no-others world (name_in (Search asks)) status files none.names (λ slot. search-no-fault status slot about);
      accepted = λ slot other e. refl;
      patterns = tries;
      wrote = concludes.wrote;
      later = concludes.later;
    }

-- ---- a policy that was not accepted

pub bad-settles : (asks : Question) (fault : Fault) (world : World) (old : Outside) → NoOtherAsked old.files → Settles asks (Err fault) world old old (BadPolicy fault)
bad-settles asks fault world old unasked = record {
  meets = λ contents tells. (refl, gains-none old.sink.written);
  about = tt;
  silent = gains-none old.sink.written;
  files = record {
    policy = refl;
    others = λ slot other. untouched (name_in asks slot) (old.files slot ≡ old.files slot) refl;
    turns = λ slot. omega arith;
    read = λ slot e. absurd (cc e);
  };
  accepted = λ slot other e. absurd (cc (unasked slot other, e));
  patterns = untried (patterns_in asks) old.patterns (BadPolicy fault) refl;
  wrote = λ e. absurd (cc e);
  later = omega arith;
}

pub memory-settles : (asks : Question) (outcome : Result Parts Fault) (world : World) (old : Outside) → NoOtherAsked old.files → Settles asks outcome world old old Memory
memory-settles asks outcome world old unasked = record {
  meets = λ contents tells. part-none old.sink _;
  about = tt;
  silent = tt;
  files = record {
    policy = refl;
    others = λ slot other. unasked-memory world (name_in asks slot) slot (old.files slot) (unasked slot other);
    turns = λ slot. omega arith;
    read = λ slot e. absurd (cc e);
  };
  accepted = λ slot other e. absurd (cc (unasked slot other, e));
  patterns = untried (patterns_in asks) old.patterns Memory tt;
  wrote = λ e. absurd (cc e);
  later = omega arith;
}

-- ---- a further file that was read, or not

-- it was asked under its name, whatever comes of it
file-asked : (world : World) (slot : Slot) (name : List ℕ) (status : Status) (old new : SlotState) → slot ≢ Policy → IsOfFile slot status → new.asked ≡ true → IsAsked (told world slot name) new.name name
    → IsAskedNext world slot name status old new
file-asked world slot name Done old new other h asked named = (asked, named)
file-asked world slot name (Usage word) old new other h asked named = absurd h
file-asked world slot name (ReadFault Policy) old new other h asked named = absurd (other (sym h))
file-asked world slot name (ReadFault Map) old new other h asked named = (asked, named)
file-asked world slot name (ReadFault Checklist) old new other h asked named = (asked, named)
file-asked world slot name (TooLarge Policy) old new other h asked named = absurd (other (sym h))
file-asked world slot name (TooLarge Map) old new other h asked named = (asked, named)
file-asked world slot name (TooLarge Checklist) old new other h asked named = (asked, named)
file-asked world slot name (BadPolicy fault) old new other h asked named = absurd h
file-asked world slot name (BadMap fault) old new other h asked named = (asked, named)
file-asked world slot name (BadList fault) old new other h asked named = (asked, named)
file-asked world slot name (CannotHold version unheld) old new other h asked named = absurd h
file-asked world slot name (UnknownName word) old new other h asked named = (asked, named)
file-asked world slot name (BadNumber word) old new other h asked named = absurd h
file-asked world slot name (BadPattern word kind) old new other h asked named = absurd h
file-asked world slot name WriteFault old new other h asked named = (asked, named)
file-asked world slot name Memory old new other h asked named = λ _. named

unread-of-file : (slot : Slot) (end : ReadEnd) → IsOfFile slot (unread_status slot end)
unread-of-file slot ends.Fault = refl
unread-of-file slot ends.TooLarge = refl
unread-of-file slot ends.Memory = tt

pub file-unread : (slot : Slot) (name : List ℕ) (answer : List ℕ → Answer) (world : World) (old new : Slot → SlotState) (sink : SinkState) (end : ReadEnd) → slot ≢ Policy
    → ReadsWhole world old new slot name (file_limit slot) (Err end) → FileSettles slot name answer world old new sink sink (unread_status slot end)
file-unread slot name answer world old new sink end other reads = record {
  meets = λ held tells. unread-meets world old new slot name end held answer sink reads tells;
  about = unread-of-file slot end;
  silent = unread-silent slot end sink;
  files = record {
    others = reads.others;
    asked = file-asked world slot name (unread_status slot end) (old slot) (new slot) other (unread-of-file slot end) reads.asked reads.named;
    turns = reads.turns;
    read = unread-fault world old new slot slot name end reads;
  };
  wrote = λ e. absurd (unread-wrote slot end e);
  later = omega arith;
}

file-read : (slot : Slot) (name : List ℕ) (answer : List ℕ → Answer) (world : World) (files_old files_new : Slot → SlotState) (old new : SinkState) (v : Vec ℕ Global) (status : Status) → slot ≢ Policy
    → ReadsWhole world files_old files_new slot name (file_limit slot) (Ok v) → Concludes (answer v.items) old new status → IsOfFile slot status → (status ≡ ReadFault slot → ⊥)
    → FileSettles slot name answer world files_old files_new old new status
file-read slot name answer world files_old files_new old new v status other reads concludes about fault = record {
  meets = λ held tells. rw (by_file-read world files_old files_new slot name v held answer reads tells) concludes.meets;
  about = about;
  silent = concludes.silent;
  files = record {
    others = reads.others;
    asked = file-asked world slot name status (files_old slot) (files_new slot) other about reads.asked reads.named;
    turns = reads.turns;
    read = λ e. absurd (fault e);
  };
  wrote = concludes.wrote;
  later = concludes.later;
}

of-map : (status : Status) → IsOfMap status → IsOfFile Map status
of-map Done h = tt
of-map (Usage word) h = h
of-map (ReadFault slot) h = absurd h
of-map (TooLarge slot) h = absurd h
of-map (BadPolicy fault) h = h
of-map (BadMap fault) h = refl
of-map (BadList fault) h = absurd h
of-map (CannotHold version unheld) h = h
of-map (UnknownName word) h = refl
of-map (BadNumber word) h = h
of-map (BadPattern word kind) h = h
of-map WriteFault h = tt
of-map Memory h = tt

map-no-fault : (status : Status) → IsOfMap status → status ≡ ReadFault Map → ⊥
map-no-fault status h e = rw e at h

pub map-read : (name : List ℕ) (answer : List ℕ → Answer) (world : World) (files_old files_new : Slot → SlotState) (old new : SinkState) (v : Vec ℕ Global) (status : Status)
    → ReadsWhole world files_old files_new Map name (file_limit Map) (Ok v) → Concludes (answer v.items) old new status → IsOfMap status → FileSettles Map name answer world files_old files_new old new status
map-read name answer world files_old files_new old new v status reads concludes about =
    file-read Map name answer world files_old files_new old new v status other-map reads concludes (of-map status about) (map-no-fault status about)

of-list : (status : Status) → IsOfList status → IsOfFile Checklist status
of-list Done h = tt
of-list (Usage word) h = h
of-list (ReadFault slot) h = absurd h
of-list (TooLarge slot) h = absurd h
of-list (BadPolicy fault) h = h
of-list (BadMap fault) h = absurd h
of-list (BadList fault) h = refl
of-list (CannotHold version unheld) h = h
of-list (UnknownName word) h = absurd h
of-list (BadNumber word) h = h
of-list (BadPattern word kind) h = h
of-list WriteFault h = tt
of-list Memory h = tt

list-no-fault : (status : Status) → IsOfList status → status ≡ ReadFault Checklist → ⊥
list-no-fault status h e = rw e at h

pub list-read : (name : List ℕ) (answer : List ℕ → Answer) (world : World) (files_old files_new : Slot → SlotState) (old new : SinkState) (v : Vec ℕ Global) (status : Status)
    → ReadsWhole world files_old files_new Checklist name (file_limit Checklist) (Ok v) → Concludes (answer v.items) old new status → IsOfList status
    → FileSettles Checklist name answer world files_old files_new old new status
list-read name answer world files_old files_new old new v status reads concludes about =
    file-read Checklist name answer world files_old files_new old new v status other-list reads concludes (of-list status about) (list-no-fault status about)

-- ---- seinfoflow and sechecker

same-slot : (a b : Slot) → (a ≡ b) ⊎ (a ≢ b)
same-slot Policy Policy = inl refl
same-slot Policy Map = inr (λ e. cc e)
same-slot Policy Checklist = inr (λ e. cc e)
same-slot Map Policy = inr (λ e. cc e)
same-slot Map Map = inl refl
same-slot Map Checklist = inr (λ e. cc e)
same-slot Checklist Policy = inr (λ e. cc e)
same-slot Checklist Map = inr (λ e. cc e)
same-slot Checklist Checklist = inl refl

-- a question that asks for the file of one more slot, by a name
record NamesOne (asks : Question) (slot : Slot) (name : List ℕ) : Type 0 where
  named : name_in asks slot ≡ Some name
  others : (own : Slot) → own ≢ Policy → own ≢ slot → name_in asks own ≡ None

one-file : (asks : Question) (slot : Slot) (name : List ℕ) (world : World) (status : Status) (old new : Slot → SlotState) → slot ≢ Policy → NamesOne asks slot name → IsOfFile slot status
    → AsksFile world slot name status old new → AsksNext world (name_in asks) status old new
one-file asks slot name world status old new other names about files = record {
  policy = files.others Policy (λ e. other (sym e));
  others = λ own first. elim (same-slot own slot) [
    | inl e ↦ rw (e, names.named) files.asked
    | inr apart ↦ rw (names.others own first apart) (files.others own apart)
  ];
  turns = λ own. elim (same-slot own slot) [
    | inl e ↦ rw e files.turns
    | inr apart ↦ rw (files.others own apart) (omega arith)
  ];
  read = λ own e. let same : own ≡ slot = rw e at about in rw same (files.read (rw same at e));
}

file-until : (slot : Slot) (status : Status) (past : ℕ) → IsOfFile slot status → TriedUntil [] [] past past status
file-until slot Done past h = (refl, λ k d lt. absurd (omega (arith, lt)))
file-until slot (Usage word) past h = absurd h
file-until slot (ReadFault own) past h = refl
file-until slot (TooLarge own) past h = refl
file-until slot (BadPolicy fault) past h = absurd h
file-until slot (BadMap fault) past h = refl
file-until slot (BadList fault) past h = refl
file-until slot (CannotHold version unheld) past h = absurd h
file-until slot (UnknownName word) past h = (λ k d lt. absurd (omega (arith, lt)), λ k d lt. absurd (omega (arith, lt)), λ k d lt. absurd (omega (arith, lt)))
file-until slot (BadNumber word) past h = absurd h
file-until slot (BadPattern word kind) past h = absurd h
file-until slot WriteFault past h = (refl, λ k d lt. absurd (omega (arith, lt)))
file-until slot Memory past h = tt

some-name : (found : Option (List ℕ)) (name : List ℕ) → found ≡ Some name → IsSome found
some-name found name is = rw is refl

file-settled : (asks : Question) (slot : Slot) (name : List ℕ) (status : Status) → slot ≢ Policy → name_in asks slot ≡ Some name → IsOfFile slot status → IsSettled asks status
file-settled asks slot name Done other named h = tt
file-settled asks slot name (Usage word) other named h = h
file-settled asks slot name (ReadFault own) other named h = rw h (other, some-name (name_in asks slot) name named)
file-settled asks slot name (TooLarge own) other named h = rw h (other, some-name (name_in asks slot) name named)
file-settled asks slot name (BadPolicy fault) other named h = tt
file-settled asks slot name (BadMap fault) other named h = some-name (name_in asks Map) name (rw h at named)
file-settled asks slot name (BadList fault) other named h = some-name (name_in asks Checklist) name (rw h at named)
file-settled asks slot name (CannotHold version unheld) other named h = absurd h
file-settled asks slot name (UnknownName word) other named h = tt
file-settled asks slot name (BadNumber word) other named h = tt
file-settled asks slot name (BadPattern word kind) other named h = tt
file-settled asks slot name WriteFault other named h = tt
file-settled asks slot name Memory other named h = tt

file-settles : (asks : Question) (slot : Slot) (name : List ℕ) (answer : List ℕ → Answer) (policy : Parts) (world : World) (files_old files_new : Slot → SlotState) (patterns : PatternsState) (old new : SinkState)
    (status : Status) → slot ≢ Policy → NamesOne asks slot name → patterns_in asks ≡ [] → ((contents : Contents) → answer_about asks policy contents ≡ by_file slot (contents slot) answer)
    → ((contents : Contents) → Tells world (Ok (About asks)) contents → told world slot name ≡ Some (contents slot)) → FileSettles slot name answer world files_old files_new old new status
    → Settles asks (Ok policy) world (outside files_old patterns old) (outside files_new patterns new) status
file-settles asks slot name answer policy world files_old files_new patterns old new status other names untold is tells_file settles = record {
  meets = λ contents tells. rw (is contents) (settles.meets (contents slot) (tells_file contents tells));
  about = file-settled asks slot name status other names.named settles.about;
  silent = settles.silent;
  files = one-file asks slot name world status files_old files_new other names settles.about settles.files;
  accepted = λ own first e. refl;
  patterns = rw untold (untried [] patterns status (file-until slot status patterns.refusals settles.about));
  wrote = settles.wrote;
  later = settles.later;
}

names-map : (asks : FlowAsks) → NamesOne (Flow asks) Map asks.map_file.text
names-map asks = record { named = refl; others = each }
  where
    each : (own : Slot) → own ≢ Policy → own ≢ Map → name_in (Flow asks) own ≡ None
    each Policy first apart = absurd (first refl)
    each Map first apart = absurd (apart refl)
    each Checklist first apart = refl

pub flow-settles : (asks : FlowAsks) (policy : Parts) (world : World) (files_old files_new : Slot → SlotState) (patterns : PatternsState) (old new : SinkState) (status : Status)
    → FileSettles Map asks.map_file.text (flow_answer asks policy) world files_old files_new old new status
    → Settles (Flow asks) (Ok policy) world (outside files_old patterns old) (outside files_new patterns new) status
flow-settles asks policy world files_old files_new patterns old new status settles =
    file-settles (Flow asks) Map asks.map_file.text (flow_answer asks policy) policy world files_old files_new patterns old new status other-map (names-map asks) refl (λ contents. refl)
    (λ contents tells. tells Map) settles

names-list : (asks : CheckAsks) → NamesOne (Check asks) Checklist asks.list.text
names-list asks = record { named = refl; others = each }
  where
    each : (own : Slot) → own ≢ Policy → own ≢ Checklist → name_in (Check asks) own ≡ None
    each Policy first apart = absurd (first refl)
    each Map first apart = refl
    each Checklist first apart = absurd (apart refl)

pub check-settles : (asks : CheckAsks) (policy : Parts) (world : World) (files_old files_new : Slot → SlotState) (patterns : PatternsState) (old new : SinkState) (status : Status)
    → FileSettles Checklist asks.list.text (check_answer policy) world files_old files_new old new status
    → Settles (Check asks) (Ok policy) world (outside files_old patterns old) (outside files_new patterns new) status
check-settles asks policy world files_old files_new patterns old new status settles =
    file-settles (Check asks) Checklist asks.list.text (check_answer policy) policy world files_old files_new patterns old new status other-list (names-list asks) refl (λ contents. refl)
    (λ contents tells. tells Checklist) settles
