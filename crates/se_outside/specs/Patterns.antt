-- What building a pattern answers.
use Rattle.std.specs.Prelude.{◌≡◌, ◌≤◌, ◌++◌, ◌∷◌, [], ℕ, List, ⊤, Option, Some, None, IfOk, IsErrOf, MatchResult}
use Rattle.std.specs.declared.result.Result.{Result}
use Rattle.regex.specs.Patterns.{default_config}
use Rattle.regex.specs.Failures.{IsPattern}
use Rattle.regex.specs.Strings.{regex_source, regex_config, IsReadFromSource}
use Rattle.regex.specs.declared.string.regex.Regex.{Regex}
use Rattle.se_outside.specs.Outside.{Counts, Rose}
use Rattle.se_outside.specs.declared.patterns.PatternError.{PatternError}
use Rattle.se_outside.specs.declared.patterns.PatternError.TheVariants.{Syntax, Refused, Memory}

-- The text is a pattern of the grammar of `regex`, and does not nest too deep.
unfoldable pub IsPatternText : List ℕ → Type 0
IsPatternText text = IsPattern default_config text

-- A pattern is what the grammar reads in the text.
pub record IsBuiltFrom (text : List ℕ) (r : Regex) : Type 0 where
  pub source : regex_source r ≡ text
  pub config : regex_config r ≡ default_config
  pub read : IsReadFromSource r

-- A text read by the grammar: its pattern, or Syntax only where it is none.
pub record IsRead (text : List ℕ) (result : Result Regex PatternError) : Type 0 where
  pub built : IfOk result (IsBuiltFrom text)
  pub pattern : IfOk result (λ _. IsPatternText text)
  pub syntax : IsErrOf result Syntax → IsPatternText text → ⊥

-- The list of texts grows by this one, where it is told.
abbrev pub Notes : Option (List (List ℕ)) → Option (List (List ℕ)) → List ℕ → Type 0
Notes None new text = ⊤
Notes (Some texts) new text = new ≡ Some (texts ++ text ∷ [])

-- The pattern was refused, if memory did not run out before.
abbrev pub IsRefusedOrMemory : Result Regex PatternError → Type 0
IsRefusedOrMemory result = (IsErrOf result Memory → ⊥) → IsErrOf result Refused

-- The text is noted, but where memory ran out: then nothing is.
abbrev pub NotesAt : Option (List (List ℕ)) → Option (List (List ℕ)) → List ℕ → PatternError → Type 0
NotesAt old new text Memory = new ≡ old
NotesAt old new text kind = Notes old new text

abbrev pub NotesUnlessMemory : Option (List (List ℕ)) → Option (List (List ℕ)) → List ℕ → Result Regex PatternError → Type 0
NotesUnlessMemory old new text result = MatchResult result (λ _. Notes old new text) (NotesAt old new text)

-- What is known of what builds patterns: the texts that it was asked for, where it tells them, and a count of refusals.
pub record PatternsState : Type 0 where
  pub asked : Option (List (List ℕ))
  pub refusals : ℕ

-- What `build` does.
pub record Builds (old new : PatternsState) (text : List ℕ) (result : Result Regex PatternError) : Type 0 where
  pub later : old.refusals ≤ new.refusals
  pub noted : NotesUnlessMemory old.asked new.asked text result
  pub read : IsRead text result
  pub refused : IsErrOf result Refused → Rose old.refusals new.refusals

-- The count goes up with `Refused`, and stands still otherwise.
abbrev pub CountsAt : ℕ → ℕ → PatternError → Type 0
CountsAt before now Refused = Counts before now
CountsAt before now kind = now ≡ before

abbrev pub RefusesOnRefused : ℕ → ℕ → Result Regex PatternError → Type 0
RefusesOnRefused before now result = MatchResult result (λ _. now ≡ before) (CountsAt before now)
