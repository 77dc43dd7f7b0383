-- The first word that is refused.
use Rattle.std.proofs.Common.{◌≡◌, ◌∙◌, ℕ, Bool, true, false, cond, Option, Some, None, List, [], ◌∷◌, ◌++◌, refl, ap}
use Rattle.std.specs.List.{All, filter}
use Rattle.std.proofs.lemmas.List.Elements.{All-cons}
use Rattle.pol_file.specs.declared.Parts.{Parts}
use Rattle.pol_symbols.specs.declared.Symbols.{Symbols}
use Rattle.rule_criteria.specs.declared.Criteria.{Criteria}
use Rattle.rule_query.specs.declared.Refusal.{Refusal}
use Rattle.rule_query.specs.declared.Refusal.TheVariants.{NotThere, NoNumber}
use Rattle.rule_query.specs.GivenCriteria.{Given}
use Rattle.rule_query.specs.Refusals.{first_refused, is_pattern_word, refusal_of, refused_at, RefusedWord}
use Rattle.rule_query.specs.Resolving.{Passes}
use Rattle.se_status.specs.Conclusion.{ComesTo}
use Rattle.se_search.specs.SearchAnswer.{lines_unless}
use Rattle.se_search.specs.SearchPatterns.{ComesAfter, IsRead}
use Rattle.std.proofs.lemmas.List.Elements.{All-head, All-nil, All-tail}

-- words that pass are passed over
pub passes-skip : (policy : Parts) (criteria : Criteria) (before rest : List Given) → All (Passes policy criteria) before
    → first_refused policy.symbols criteria.kinds (before ++ rest) ≡ first_refused policy.symbols criteria.kinds rest
passes-skip policy criteria [] rest passed = refl
passes-skip policy criteria (given ∷ before) rest passed =
    let here = All-head (Passes policy criteria) given before passed in
    ap (λ r. refused_at given.criterion.word r (first_refused policy.symbols criteria.kinds (before ++ rest))) here.names
    ∙ passes-skip policy criteria before rest (All-tail (Passes policy criteria) given before passed)

-- a word that is refused is the first
pub refused-here : (symbols : Symbols) (kinds : List Bool) (given : Given) (after : List Given) (refusal : Refusal) (word : ℕ) → given.criterion.word ≡ word → refusal_of symbols kinds given ≡ Some refusal
    → first_refused symbols kinds (given ∷ after) ≡ Some (record { word = word; refusal = refusal })
refused-here symbols kinds given after refusal word is refused = rw (← is) (ap (λ r. refused_at given.criterion.word r (first_refused symbols kinds after)) refused)

-- a word that is not refused is none
pub passed-here : (symbols : Symbols) (kinds : List Bool) (given : Given) (after : List Given) → refusal_of symbols kinds given ≡ None
    → first_refused symbols kinds (given ∷ after) ≡ first_refused symbols kinds after
passed-here symbols kinds given after passed = ap (λ r. refused_at given.criterion.word r (first_refused symbols kinds after)) passed

-- a pattern is not refused by names
pub pattern-passes : (symbols : Symbols) (kinds : List Bool) (given : Given) → is_pattern_word given ≡ true → refusal_of symbols kinds given ≡ None
unfolding refusal_of
pattern-passes symbols kinds given is = rw is refl

by-refusal : (word : ℕ) (text : List ℕ) (given : Given) (others : Option RefusedWord) → ComesAfter word given → ComesTo word (lines_unless others text).status → (r : Option Refusal)
    → ComesTo word (lines_unless (refused_at given.criterion.word r others) text).status
by-refusal word text given others here then None = then
by-refusal word text given others here then (Some NotThere) = here
by-refusal word text given others here then (Some NoNumber) = here

-- the answer comes to a word that no refused word comes before
pub comes-to : (symbols : Symbols) (kinds : List Bool) (word : ℕ) (text : List ℕ) (after : List Given) → All (ComesAfter word) after
    → ComesTo word (lines_unless (first_refused symbols kinds after) text).status
comes-to symbols kinds word text [] come = tt
comes-to symbols kinds word text (given ∷ after) come =
    by-refusal word text given (first_refused symbols kinds after) (All-head (ComesAfter word) given after come) (comes-to symbols kinds word text after (All-tail (ComesAfter word) given after come))
    (refusal_of symbols kinds given)

-- words that pass are patterns where they have to be
kept : (given : Given) (others : List Given) → (is_pattern_word given ≡ true → IsRead given) → All IsRead others → (b : Bool) → is_pattern_word given ≡ b → All IsRead (cond b (given ∷ others) others)
kept given others here then true is = All-cons IsRead given others (here is) then
kept given others here then false is = then

pub passed-read : (policy : Parts) (criteria : Criteria) (before : List Given) → All (Passes policy criteria) before → All IsRead (filter is_pattern_word before)
passed-read policy criteria [] passed = All-nil IsRead
passed-read policy criteria (given ∷ before) passed =
    kept given (filter is_pattern_word before) (All-head (Passes policy criteria) given before passed).pattern (passed-read policy criteria before (All-tail (Passes policy criteria) given before passed)) (is_pattern_word given) refl
