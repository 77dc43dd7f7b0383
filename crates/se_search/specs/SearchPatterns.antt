-- What a run does with the words that are patterns.
use Rattle.std.specs.Prelude.{◌≡◌, ◌≤◌, ℕ, List, [], ◌∷◌, ◌++◌, map, ⊤, Option}
use Rattle.std.specs.List.{All, filter}
use Rattle.se_outside.specs.Patterns.{IsPatternText, PatternsState}
use Rattle.se_outside.specs.declared.PatternKind.{PatternKind}
use Rattle.rule_criteria.specs.declared.Criteria.{Criteria}
use Rattle.rule_query.specs.declared.QueryError.{QueryError}
use Rattle.rule_query.specs.declared.QueryError.TheVariants as errors
use Rattle.rule_query.specs.GivenCriteria.{Given, in_word_order}
use Rattle.rule_query.specs.Refusals.{is_pattern_word}
use Rattle.rule_query.specs.AskedPatterns.{AskedFor, IsFaulty}
use Rattle.se_status.specs.declared.Status.{Status}
use Rattle.se_status.specs.declared.Status.TheVariants.{Done, UnknownName, BadNumber, BadPattern, WriteFault, Memory}

-- the words of criteria that are patterns, in the order of their words
abbrev pub pattern_words : Criteria → List Given
pattern_words criteria = filter is_pattern_word (in_word_order criteria)

-- the text of a word is a pattern
abbrev pub IsRead : Given → Type 0
IsRead given = IsPatternText given.criterion.text

-- a word does not come before the one of this number
abbrev pub ComesAfter : ℕ → Given → Type 0
ComesAfter word given = word ≤ given.criterion.word

-- a word does not come behind the one of this number
abbrev pub ComesBefore : ℕ → Given → Type 0
ComesBefore word given = given.criterion.word ≤ word

-- The last word that was tried is the one of this number, and was not built; those before it are patterns.
pub record LastIsFaulty (tried : List Given) (past now word : ℕ) (kind : PatternKind) : Type 0 where
  pub front : List Given
  pub last : Given
  pub order : tried ≡ front ++ last ∷ []
  pub word_is : last.criterion.word ≡ word
  pub front_read : All IsRead front
  pub faulty : IsFaulty past now last.criterion.text kind

-- Of the words that are patterns some were tried, and the others were not. By the status:
abbrev pub TriedUntil : List Given → List Given → ℕ → ℕ → Status → Type 0
-- all were tried, and are patterns
TriedUntil tried others past now Done = (others ≡ []) × All IsRead tried
TriedUntil tried others past now WriteFault = (others ≡ []) × All IsRead tried
-- the words before the one that is refused were tried, and none behind it, and they are patterns
TriedUntil tried others past now (UnknownName word) = All IsRead tried × All (ComesBefore word) tried × All (ComesAfter word) others
TriedUntil tried others past now (BadNumber word) = All IsRead tried × All (ComesBefore word) tried × All (ComesAfter word) others
-- the word that is refused was tried last, if it is one of them
TriedUntil tried others past now (BadPattern word kind) = LastIsFaulty tried past now word kind × All (ComesAfter word) others
TriedUntil tried others past now Memory = ⊤
-- none was tried
TriedUntil tried others past now status = tried ≡ []

-- What was asked of the object that builds patterns: the texts of the first words that are patterns.
pub record TriesPatterns (words : List Given) (old new : PatternsState) (status : Status) : Type 0 where
  pub tried : List Given
  pub others : List Given
  pub order : words ≡ tried ++ others
  pub asked : AskedFor old.asked new.asked (map (λ given. given.criterion.text) tried)
  pub until : TriedUntil tried others old.refusals new.refusals status
  pub later : old.refusals ≤ new.refusals

-- What a policy that was read ends with: names, numbers and patterns of words can be refused.
abbrev pub IsOfSearch : Status → Type 0
IsOfSearch Done = ⊤
IsOfSearch (UnknownName word) = ⊤
IsOfSearch (BadNumber word) = ⊤
IsOfSearch (BadPattern word kind) = ⊤
IsOfSearch WriteFault = ⊤
IsOfSearch Memory = ⊤
IsOfSearch status = ⊥

-- how a run ends whose criteria were not looked up
abbrev pub status_of : QueryError → Status
status_of (errors.UnknownName word) = UnknownName word
status_of (errors.BadNumber word) = BadNumber word
status_of (errors.BadPattern word kind) = BadPattern word kind
status_of errors.Memory = Memory
