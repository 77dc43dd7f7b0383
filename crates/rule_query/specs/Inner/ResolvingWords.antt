-- What looking up one word answers. It serves the code alone.
use Rattle.std.specs.Prelude.{◌≡◌, ℕ, ◌≤◌, Bool, true, Option, Some, None, List, [], ◌∷◌, IfOk, IfErr}
use Rattle.std.specs.declared.result.Result.{Result}
use Rattle.pol_symbols.specs.declared.Symbols.{Symbols}
use Rattle.regex.specs.declared.string.regex.Regex.{Regex}
use Rattle.se_outside.specs.Patterns.{IsBuiltFrom, IsPatternText}
use Rattle.rule_query.specs.declared.refusing.Refusal.TheVariants.{NotThere, NoNumber}
use Rattle.rule_query.specs.declared.resolving.QueryError.{QueryError}
use Rattle.rule_query.specs.declared.resolving.QueryError.TheVariants.{UnknownName, BadNumber, BadPattern, Memory}
use Rattle.rule_query.specs.AskedPatterns.{AskedFor, IsFaulty}
use Rattle.rule_query.specs.GivenCriteria.{Given}
use Rattle.rule_query.specs.Inner.LookedUp.{HasPatternWord}
use Rattle.rule_query.specs.Refusals.{is_pattern_word, refusal_of, pattern_texts}

-- what the pattern of one word answers
abbrev pub BuildEnds : Given → Option (List (List ℕ)) → Option (List (List ℕ)) → ℕ → ℕ → QueryError → Type 0
BuildEnds given old new past now (BadPattern word kind) = (word ≡ given.criterion.word) × IsFaulty past now given.criterion.text kind × AskedFor old new (given.criterion.text ∷ [])
BuildEnds given old new past now Memory = new ≡ old
BuildEnds given old new past now other = ⊥

pub record BuildsWord (given : Given) (old new : Option (List (List ℕ))) (past now : ℕ) (result : Result Regex QueryError) : Type 0 where
  pub later : past ≤ now
  pub built : IfOk result (IsBuiltFrom given.criterion.text)
  pub pattern : IfOk result (λ _. IsPatternText given.criterion.text)
  pub asked : IfOk result (λ _. AskedFor old new (given.criterion.text ∷ []))
  pub ends : IfErr result (BuildEnds given old new past now)

-- and what one word does
abbrev pub AskEnds : Symbols → List Bool → Given → Option (List (List ℕ)) → Option (List (List ℕ)) → ℕ → ℕ → QueryError → Type 0
AskEnds symbols kinds given old new past now (UnknownName word) = (word ≡ given.criterion.word) × (refusal_of symbols kinds given ≡ Some NotThere) × (new ≡ old)
AskEnds symbols kinds given old new past now (BadNumber word) = (word ≡ given.criterion.word) × (refusal_of symbols kinds given ≡ Some NoNumber) × (new ≡ old)
AskEnds symbols kinds given old new past now (BadPattern word kind) = (word ≡ given.criterion.word) × (is_pattern_word given ≡ true) × IsFaulty past now given.criterion.text kind × AskedFor old new (given.criterion.text ∷ [])
AskEnds symbols kinds given old new past now Memory = new ≡ old

pub record Asks (symbols : Symbols) (kinds : List Bool) (given : Given) (old new : Option (List (List ℕ))) (past now : ℕ) (result : Result (Option Regex) QueryError) : Type 0 where
  pub later : past ≤ now
  pub names : IfOk result (λ _. refusal_of symbols kinds given ≡ None)
  pub pattern : IfOk result (HasPatternWord given)
  pub text : IfOk result (λ _. is_pattern_word given ≡ true → IsPatternText given.criterion.text)
  pub asked : IfOk result (λ _. AskedFor old new (pattern_texts (given ∷ [])))
  pub ends : IfErr result (AskEnds symbols kinds given old new past now)
