-- A run that meets an answer which is done, where nothing fails.
use Rattle.std.proofs.Common.{◌≡◌, ◌∙◌, ◌++◌, ◌∷◌, [], ℕ, List, Result, refl, subst, append_assoc}
use Rattle.std.specs.Io.KnownBytes.{Appends}
use Rattle.std.specs.List.{All}
use Rattle.std.proofs.lemmas.List.Elements.{All-head, All-tail}
use Rattle.rule_query.specs.GivenCriteria.{Given}
use Rattle.se_outside.specs.Outside.{Rose, World}
use Rattle.se_outside.specs.declared.PatternKind.{PatternKind}
use Rattle.se_outside.specs.declared.PatternKind.TheVariants as kinds
use Rattle.se_outside.specs.declared.Slot.{Slot}
use Rattle.se_search.specs.SearchPatterns.{IsRead, LastIsFaulty}
use Rattle.se_status.specs.declared.Status.{Status}
use Rattle.se_status.specs.declared.Status.TheVariants.{Done, Usage, ReadFault, TooLarge, BadPolicy, BadMap, BadList, CannotHold, UnknownName, BadNumber, BadPattern, WriteFault, Memory}
use Rattle.se_options.specs.Request.{Asks}
use Rattle.se_tools.specs.Answer.{Contents, answer_of, asked_patterns}
use Rattle.se_tools.specs.Answers.{Answers, Outside, Tells}

-- a word of a list, behind some others
read-behind : (front : List Given) (last : Given) (others : List Given) → All IsRead (front ++ last ∷ others) → IsRead last
read-behind [] last others all = All-head IsRead last others all
read-behind (given ∷ front) last others all = read-behind front last others (All-tail IsRead given (front ++ last ∷ others) all)

-- no word that is a pattern is faulty
none-faulty : (words tried others : List Given) (past now word : ℕ) (kind : PatternKind) → words ≡ tried ++ others → LastIsFaulty tried past now word kind → All IsRead words → (Rose past now → ⊥) → ⊥
none-faulty words tried others past now word kinds.Syntax order last read refused =
    let whole : words ≡ last.front ++ last.last ∷ others = order ∙ rw last.order (append_assoc last.front (last.last ∷ []) others) in
    last.faulty (read-behind last.front last.last others (subst (λ (ws : List Given). All IsRead ws) whole read))
none-faulty words tried others past now word kinds.Refused order last read refused = refused last.faulty

-- The run ended with a status, whatever that is.
pub complete : (request : Result Asks ℕ) (world : World) (contents : Contents) (old new : Outside) (status : Status) → Answers request world old new status → Tells world request contents
    → ((slot : Slot) → Rose (old.files slot).faults (new.files slot).faults → ⊥) → (Rose old.patterns.refusals new.patterns.refusals → ⊥) → (Rose old.sink.faults new.sink.faults → ⊥)
    → All IsRead (asked_patterns request) → (answer_of request contents).status ≡ Done → (status ≡ Memory → ⊥)
    → (status ≡ Done) × Appends old.sink.written new.sink.written (answer_of request contents).text
complete request world contents old new Done answers tells kept unrefused whole read done other = (refl, (answers.meets contents tells).1)
complete request world contents old new (Usage word) answers tells kept unrefused whole read done other = absurd (let e = (answers.meets contents tells).0 in cc (e, done))
complete request world contents old new (ReadFault slot) answers tells kept unrefused whole read done other = absurd (kept slot (answers.read slot refl))
complete request world contents old new (TooLarge slot) answers tells kept unrefused whole read done other = absurd (let e = (answers.meets contents tells).0 in cc (e, done))
complete request world contents old new (BadPolicy fault) answers tells kept unrefused whole read done other = absurd (let e = (answers.meets contents tells).0 in cc (e, done))
complete request world contents old new (BadMap fault) answers tells kept unrefused whole read done other = absurd (let e = (answers.meets contents tells).0 in cc (e, done))
complete request world contents old new (BadList fault) answers tells kept unrefused whole read done other = absurd (let e = (answers.meets contents tells).0 in cc (e, done))
complete request world contents old new (CannotHold version unheld) answers tells kept unrefused whole read done other = absurd (let e = (answers.meets contents tells).0 in cc (e, done))
complete request world contents old new (UnknownName word) answers tells kept unrefused whole read done other = absurd (let e = (answers.meets contents tells).0 in cc (e, done))
complete request world contents old new (BadNumber word) answers tells kept unrefused whole read done other = absurd (let e = (answers.meets contents tells).0 in cc (e, done))
complete request world contents old new (BadPattern word kind) answers tells kept unrefused whole read done other =
    let p = answers.patterns in
    absurd (none-faulty (asked_patterns request) p.tried p.others old.patterns.refusals new.patterns.refusals word kind p.order p.until.0 read unrefused)
complete request world contents old new WriteFault answers tells kept unrefused whole read done other = absurd (whole (answers.wrote refl))
complete request world contents old new Memory answers tells kept unrefused whole read done other = absurd (other refl)
