-- What looking criteria up in a policy answers: a query, where no word is refused and each pattern was built, and else the first word that
-- is refused, or a pattern that was not built. By the patterns that were asked for, and the count of refusals, before and after.
use Rattle.std.specs.Prelude.{◌≡◌, ℕ, ◌≤◌, true, Option, Some, None, List, [], ◌∷◌, ◌++◌, IfOk, MatchResult}
use Rattle.std.specs.List.{All}
use Rattle.std.specs.declared.result.Result.{Result}
use Rattle.pol_file.specs.declared.Parts.{Parts}
use Rattle.se_outside.specs.Patterns.{IsPatternText}
use Rattle.se_outside.specs.declared.PatternKind.{PatternKind}
use Rattle.rule_criteria.specs.declared.Criteria.{Criteria}
use Rattle.rule_query.specs.declared.refusing.Refusal.{Refusal}
use Rattle.rule_query.specs.declared.refusing.Refusal.TheVariants.{NotThere, NoNumber}
use Rattle.rule_query.specs.declared.resolving.QueryError.{QueryError}
use Rattle.rule_query.specs.declared.resolving.QueryError.TheVariants.{UnknownName, BadNumber, BadPattern, Memory}
use Rattle.rule_query.specs.declared.query.Query.{Query}
use Rattle.rule_query.specs.AskedPatterns.{AskedFor, IsFaulty}
use Rattle.rule_query.specs.GivenCriteria.{Given, in_word_order}
use Rattle.rule_query.specs.Queries.{IsQueryOf}
use Rattle.rule_query.specs.Refusals.{is_pattern_word, refusal_of, pattern_texts}

-- ---- words

-- A word is not refused by its names or numbers, and its text is a pattern where it has to be one.
pub record Passes (policy : Parts) (criteria : Criteria) (given : Given) : Type 0 where
  pub names : refusal_of policy.symbols criteria.kinds given ≡ None
  pub pattern : is_pattern_word given ≡ true → IsPatternText given.criterion.text

-- The words come, in their order, to one of that number, and those before it pass.
pub record Stops (policy : Parts) (criteria : Criteria) (before : List Given) (given : Given) (word : ℕ) : Type 0 where
  pub after : List Given
  pub order : in_word_order criteria ≡ before ++ given ∷ after
  pub passed : All (Passes policy criteria) before
  pub word_is : given.criterion.word ≡ word

-- ---- how it ends

-- No word is refused, and all patterns were asked for, each once.
pub record AllPass (policy : Parts) (criteria : Criteria) (old new : Option (List (List ℕ))) : Type 0 where
  pub passed : All (Passes policy criteria) (in_word_order criteria)
  pub asked : AskedFor old new (pattern_texts (in_word_order criteria))

-- A word is refused by its names or numbers. Only the patterns before it were asked for.
pub record IsRefused (policy : Parts) (criteria : Criteria) (old new : Option (List (List ℕ))) (word : ℕ) (refusal : Refusal) : Type 0 where
  pub before : List Given
  pub given : Given
  pub stops : Stops policy criteria before given word
  pub refused : refusal_of policy.symbols criteria.kinds given ≡ Some refusal
  pub asked : AskedFor old new (pattern_texts before)

-- A pattern was not built, which was the last that was asked for.
pub record HasBadPattern (policy : Parts) (criteria : Criteria) (old new : Option (List (List ℕ))) (past now word : ℕ) (kind : PatternKind) : Type 0 where
  pub before : List Given
  pub given : Given
  pub stops : Stops policy criteria before given word
  pub pattern : is_pattern_word given ≡ true
  pub faulty : IsFaulty past now given.criterion.text kind
  pub asked : AskedFor old new (pattern_texts before ++ given.criterion.text ∷ [])

-- Out of memory: the patterns of the first words were asked for.
pub record AsksSome (criteria : Criteria) (old new : Option (List (List ℕ))) : Type 0 where
  pub before : List Given
  pub after : List Given
  pub order : in_word_order criteria ≡ before ++ after
  pub asked : AskedFor old new (pattern_texts before)

-- why there is no query
abbrev pub FailsAs : Parts → Criteria → Option (List (List ℕ)) → Option (List (List ℕ)) → ℕ → ℕ → QueryError → Type 0
FailsAs policy criteria old new past now (UnknownName word) = IsRefused policy criteria old new word NotThere
FailsAs policy criteria old new past now (BadNumber word) = IsRefused policy criteria old new word NoNumber
FailsAs policy criteria old new past now (BadPattern word kind) = HasBadPattern policy criteria old new past now word kind
FailsAs policy criteria old new past now Memory = AsksSome criteria old new

-- ---- the whole

-- what looking up answers: a query of the criteria, or why there is none
pub record Resolves (policy : Parts) (criteria : Criteria) (old new : Option (List (List ℕ))) (past now : ℕ) (result : Result Query QueryError) : Type 0 where
  -- the count of refusals never falls
  pub later : past ≤ now
  pub query : IfOk result (IsQueryOf policy criteria)
  pub ends : MatchResult result (λ query. AllPass policy criteria old new) (FailsAs policy criteria old new past now)
