-- From how criteria were looked up to what was asked of patterns, and to the answer.
use Rattle.std.proofs.Common.{◌≡◌, ◌∙◌, ℕ, ◌≤◌, true, cond, Option, Some, None, List, [], ◌∷◌, ◌++◌, refl, sym, ap, subst, arith, append-nil, append_assoc}
use Rattle.std.specs.List.{All, filter}
use Rattle.std.proofs.lemmas.List.Elements.{All-cons, All-filter, filter-append}
use Rattle.std.proofs.lemmas.List.{map-append}
use Rattle.pol_file.specs.declared.Parts.{Parts}
use Rattle.rule_criteria.specs.declared.Criteria.{Criteria}
use Rattle.se_outside.specs.Outside.{SinkState}
use Rattle.se_outside.specs.Patterns.{PatternsState}
use Rattle.se_outside.specs.declared.PatternKind.{PatternKind}
use Rattle.rule_query.specs.declared.QueryError.{QueryError}
use Rattle.rule_query.specs.declared.QueryError.TheVariants as errors
use Rattle.rule_query.specs.declared.Refusal.{Refusal}
use Rattle.rule_query.specs.declared.Refusal.TheVariants.{NotThere, NoNumber}
use Rattle.rule_query.specs.GivenCriteria.{Given, in_word_order}
use Rattle.rule_query.specs.Refusals.{first_refused, is_pattern_word}
use Rattle.rule_query.specs.Resolving.{AllPass, AsksSome, FailsAs, HasBadPattern, IsRefused}
use Rattle.se_items.proofs.Gains.{gains-none}
use Rattle.se_status.specs.declared.Status.{Status}
use Rattle.se_status.specs.declared.Status.TheVariants.{Done, Usage, ReadFault, TooLarge, BadPolicy, BadMap, BadList, CannotHold, UnknownName, BadNumber, BadPattern, WriteFault, Memory}
use Rattle.se_status.specs.Conclusion.{Concludes, IsWritten, done, refusal}
use Rattle.se_options.specs.SearchRequest.{SearchAsks}
use Rattle.se_search.specs.SearchAnswer.{search_answer, search_text, status_for}
use Rattle.se_search.specs.SearchPatterns.{ComesAfter, ComesBefore, IsRead, IsOfSearch, TriedUntil, TriesPatterns, pattern_words, status_of}
use Rattle.se_search.proofs.WordsRise.{Rises, after-rises, before-rises, order-rises}
use Rattle.se_search.proofs.Refused.{comes-to, passed-here, passed-read, passes-skip, pattern-passes, refused-here}

written-until : (tried : List Given) (past now : ℕ) (status : Status) → IsWritten status → All IsRead tried → TriedUntil tried [] past now status
written-until tried past now Done h read = (refl, read)
written-until tried past now (Usage word) h read = absurd h
written-until tried past now (ReadFault slot) h read = absurd h
written-until tried past now (TooLarge slot) h read = absurd h
written-until tried past now (BadPolicy fault) h read = absurd h
written-until tried past now (BadMap fault) h read = absurd h
written-until tried past now (BadList fault) h read = absurd h
written-until tried past now (CannotHold version unheld) h read = absurd h
written-until tried past now (UnknownName word) h read = absurd h
written-until tried past now (BadNumber word) h read = absurd h
written-until tried past now (BadPattern word kind) h read = absurd h
written-until tried past now WriteFault h read = (refl, read)
written-until tried past now Memory h read = tt

-- all words pass, and the lines were written, or not
pub all-tried : (policy : Parts) (criteria : Criteria) (old new : PatternsState) (status : Status) → AllPass policy criteria old.asked new.asked → old.refusals ≤ new.refusals → IsWritten status
    → TriesPatterns (pattern_words criteria) old new status
all-tried policy criteria old new status all later written = record {
  tried = pattern_words criteria;
  others = [];
  order = sym (append-nil (pattern_words criteria));
  asked = all.asked;
  until = written-until (pattern_words criteria) old.refusals new.refusals status written (passed-read policy criteria (in_word_order criteria) all.passed);
  later = later;
}

-- no word is refused
pub none-refused : (policy : Parts) (criteria : Criteria) (old new : Option (List (List ℕ))) → AllPass policy criteria old new → first_refused policy.symbols criteria.kinds (in_word_order criteria) ≡ None
none-refused policy criteria old new all =
    ap (first_refused policy.symbols criteria.kinds) (sym (append-nil (in_word_order criteria))) ∙ passes-skip policy criteria (in_word_order criteria) [] all.passed

pub answer-written : (asks : SearchAsks) (policy : Parts) (old new : SinkState) (status : Status) (p q : Option (List (List ℕ))) → AllPass policy asks.criteria p q
    → Concludes (done (search_text asks policy)) old new status → Concludes (search_answer asks policy) old new status
unfolding search_answer
answer-written asks policy old new status p q all concludes = rw (none-refused policy asks.criteria p q all) concludes

-- what is written is an end of a search
pub written-of-search : (status : Status) → IsWritten status → IsOfSearch status
written-of-search Done h = tt
written-of-search (Usage word) h = h
written-of-search (ReadFault slot) h = h
written-of-search (TooLarge slot) h = h
written-of-search (BadPolicy fault) h = h
written-of-search (BadMap fault) h = h
written-of-search (BadList fault) h = h
written-of-search (CannotHold version unheld) h = h
written-of-search (UnknownName word) h = tt
written-of-search (BadNumber word) h = tt
written-of-search (BadPattern word kind) h = tt
written-of-search WriteFault h = tt
written-of-search Memory h = tt

-- the words of some criteria, and those of the others
order-of : (criteria : Criteria) (before rest : List Given) → in_word_order criteria ≡ before ++ rest → pattern_words criteria ≡ filter is_pattern_word before ++ filter is_pattern_word rest
order-of criteria before rest is = ap (filter is_pattern_word) is ∙ filter-append is_pattern_word before rest

after-given : (criteria : Criteria) (before : List Given) (given : Given) (after : List Given) (word : ℕ) → in_word_order criteria ≡ before ++ given ∷ after → given.criterion.word ≡ word → All (ComesAfter word) after
after-given criteria before given after word is at =
    let rises = subst Rises is (order-rises criteria) in
    rw (← at) (after-rises before given after rises)

to-word : (criteria : Criteria) (before : List Given) (given : Given) (after : List Given) (word : ℕ) → in_word_order criteria ≡ before ++ given ∷ after → given.criterion.word ≡ word
    → All (ComesBefore word) (filter is_pattern_word before)
to-word criteria before given after word is at =
    let rises = subst Rises is (order-rises criteria) in
    All-filter is_pattern_word (ComesBefore word) before (rw (← at) (before-rises before given after rises))

from-word : (criteria : Criteria) (before : List Given) (given : Given) (after : List Given) (word : ℕ) → in_word_order criteria ≡ before ++ given ∷ after → given.criterion.word ≡ word
    → All (ComesAfter word) (filter is_pattern_word (given ∷ after))
from-word criteria before given after word is at =
    let here : ComesAfter word given = omega (arith, at) in
    All-filter is_pattern_word (ComesAfter word) (given ∷ after) (All-cons (ComesAfter word) given after here (after-given criteria before given after word is at))

plainly-refused : (sink : SinkState) (cause : Refusal) (word : ℕ) → Concludes (refusal (status_for cause word)) sink sink (status_for cause word)
plainly-refused sink NotThere word = record { meets = (refl, gains-none sink.written); silent = gains-none sink.written; wrote = λ h. absurd (cc h); later = omega arith }
plainly-refused sink NoNumber word = record { meets = (refl, gains-none sink.written); silent = gains-none sink.written; wrote = λ h. absurd (cc h); later = omega arith }

one-kept : (front : List Given) (given : Given) (after : List Given) → is_pattern_word given ≡ true → front ++ filter is_pattern_word (given ∷ after) ≡ (front ++ given ∷ []) ++ filter is_pattern_word after
one-kept front given after is =
    ap (λ b. front ++ cond b (given ∷ filter is_pattern_word after) (filter is_pattern_word after)) is ∙ sym (append_assoc front (given ∷ []) (filter is_pattern_word after))

-- a word is refused
pub refused-tried : (policy : Parts) (criteria : Criteria) (old new : PatternsState) (word : ℕ) (cause : Refusal) → IsRefused policy criteria old.asked new.asked word cause → old.refusals ≤ new.refusals
    → TriesPatterns (pattern_words criteria) old new (status_for cause word)
refused-tried policy criteria old new word NotThere refused later = record {
  tried = filter is_pattern_word refused.before;
  others = filter is_pattern_word (refused.given ∷ refused.stops.after);
  order = order-of criteria refused.before (refused.given ∷ refused.stops.after) refused.stops.order;
  asked = refused.asked;
  until = (
    passed-read policy criteria refused.before refused.stops.passed,
    to-word criteria refused.before refused.given refused.stops.after word refused.stops.order refused.stops.word_is,
    from-word criteria refused.before refused.given refused.stops.after word refused.stops.order refused.stops.word_is,
  );
  later = later;
}
refused-tried policy criteria old new word NoNumber refused later = record {
  tried = filter is_pattern_word refused.before;
  others = filter is_pattern_word (refused.given ∷ refused.stops.after);
  order = order-of criteria refused.before (refused.given ∷ refused.stops.after) refused.stops.order;
  asked = refused.asked;
  until = (
    passed-read policy criteria refused.before refused.stops.passed,
    to-word criteria refused.before refused.given refused.stops.after word refused.stops.order refused.stops.word_is,
    from-word criteria refused.before refused.given refused.stops.after word refused.stops.order refused.stops.word_is,
  );
  later = later;
}

-- and is the answer
pub refused-answer : (asks : SearchAsks) (policy : Parts) (sink : SinkState) (word : ℕ) (cause : Refusal) (old new : Option (List (List ℕ))) → IsRefused policy asks.criteria old new word cause
    → Concludes (search_answer asks policy) sink sink (status_for cause word)
unfolding search_answer
refused-answer asks policy sink word cause old new refused =
    let e : first_refused policy.symbols asks.criteria.kinds (in_word_order asks.criteria) ≡ Some (record { word = word; refusal = cause }) =
    ap (first_refused policy.symbols asks.criteria.kinds) refused.stops.order
    ∙ passes-skip policy asks.criteria refused.before (refused.given ∷ refused.stops.after) refused.stops.passed
    ∙ refused-here policy.symbols asks.criteria.kinds refused.given refused.stops.after cause word refused.stops.word_is refused.refused in
    rw e (plainly-refused sink cause word)

-- a pattern was not built
pub bad-tried : (policy : Parts) (criteria : Criteria) (old new : PatternsState) (word : ℕ) (kind : PatternKind) → HasBadPattern policy criteria old.asked new.asked old.refusals new.refusals word kind → old.refusals ≤ new.refusals
    → TriesPatterns (pattern_words criteria) old new (BadPattern word kind)
bad-tried policy criteria old new word kind bad later =
    let after = after-given criteria bad.before bad.given bad.stops.after word bad.stops.order bad.stops.word_is in
    record {
      tried = filter is_pattern_word bad.before ++ bad.given ∷ [];
      others = filter is_pattern_word bad.stops.after;
      order = order-of criteria bad.before (bad.given ∷ bad.stops.after) bad.stops.order ∙ one-kept (filter is_pattern_word bad.before) bad.given bad.stops.after bad.pattern;
      asked = rw (map-append (λ (given : Given). given.criterion.text) (filter is_pattern_word bad.before) (bad.given ∷ [])) bad.asked;
      until = (
        record {
          front = filter is_pattern_word bad.before;
          last = bad.given;
          order = refl;
          word_is = bad.stops.word_is;
          front_read = passed-read policy criteria bad.before bad.stops.passed;
          faulty = bad.faulty;
        },
        All-filter is_pattern_word (ComesAfter word) bad.stops.after after,
      );
      later = later;
    }

pub bad-answer : (asks : SearchAsks) (policy : Parts) (sink : SinkState) (old new : Option (List (List ℕ))) (past now word : ℕ) (kind : PatternKind) → HasBadPattern policy asks.criteria old new past now word kind
    → Concludes (search_answer asks policy) sink sink (BadPattern word kind)
unfolding search_answer
bad-answer asks policy sink old new past now word kind bad =
    let e : first_refused policy.symbols asks.criteria.kinds (in_word_order asks.criteria) ≡ first_refused policy.symbols asks.criteria.kinds bad.stops.after =
    ap (first_refused policy.symbols asks.criteria.kinds) bad.stops.order
    ∙ passes-skip policy asks.criteria bad.before (bad.given ∷ bad.stops.after) bad.stops.passed
    ∙ passed-here policy.symbols asks.criteria.kinds bad.given bad.stops.after (pattern-passes policy.symbols asks.criteria.kinds bad.given bad.pattern) in
    let come = comes-to policy.symbols asks.criteria.kinds word (search_text asks policy) bad.stops.after (after-given asks.criteria bad.before bad.given bad.stops.after word bad.stops.order bad.stops.word_is) in
    rw e (record { meets = (come, gains-none sink.written); silent = gains-none sink.written; wrote = λ h. absurd (cc h); later = omega arith })

-- out of memory
pub some-tried : (criteria : Criteria) (old new : PatternsState) → AsksSome criteria old.asked new.asked → old.refusals ≤ new.refusals → TriesPatterns (pattern_words criteria) old new Memory
some-tried criteria old new some later = record {
  tried = filter is_pattern_word some.before;
  others = filter is_pattern_word some.after;
  order = order-of criteria some.before some.after some.order;
  asked = some.asked;
  until = tt;
  later = later;
}

-- ---- whatever is refused

pub ends-tried : (policy : Parts) (criteria : Criteria) (old new : PatternsState) (error : QueryError) → FailsAs policy criteria old.asked new.asked old.refusals new.refusals error → old.refusals ≤ new.refusals
    → TriesPatterns (pattern_words criteria) old new (status_of error)
ends-tried policy criteria old new (errors.UnknownName word) ends later = refused-tried policy criteria old new word NotThere ends later
ends-tried policy criteria old new (errors.BadNumber word) ends later = refused-tried policy criteria old new word NoNumber ends later
ends-tried policy criteria old new (errors.BadPattern word kind) ends later = bad-tried policy criteria old new word kind ends later
ends-tried policy criteria old new errors.Memory ends later = some-tried criteria old new ends later

pub ends-answer : (asks : SearchAsks) (policy : Parts) (sink : SinkState) (old new : Option (List (List ℕ))) (past now : ℕ) (error : QueryError) → FailsAs policy asks.criteria old new past now error
    → Concludes (search_answer asks policy) sink sink (status_of error)
ends-answer asks policy sink old new past now (errors.UnknownName word) ends = refused-answer asks policy sink word NotThere old new ends
ends-answer asks policy sink old new past now (errors.BadNumber word) ends = refused-answer asks policy sink word NoNumber old new ends
ends-answer asks policy sink old new past now (errors.BadPattern word kind) ends = bad-answer asks policy sink old new past now word kind ends
ends-answer asks policy sink old new past now errors.Memory ends = record { meets = ([], _, refl, gains-none sink.written); silent = tt; wrote = λ h. absurd (cc h); later = omega arith }

pub ends-about : (error : QueryError) → IsOfSearch (status_of error)
ends-about (errors.UnknownName word) = tt
ends-about (errors.BadNumber word) = tt
ends-about (errors.BadPattern word kind) = tt
ends-about errors.Memory = tt
