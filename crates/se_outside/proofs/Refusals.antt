-- A text that the parser refuses is no pattern, or nests too deep; one that it reads is a pattern.
use Rattle.std.proofs.Common.{◌≡◌, ◌≢◌, ◌≤◌, ◌<◌, inl, inr, ℕ, List, Option, None, Some, IfSome, IsSomeAnd, arith, length}
use Rattle.std.specs.Str.{chars}
use Rattle.regex.specs.Patterns.{Reads, Refuses, Re, SameCaptures, default_config}
use Rattle.regex_hir.specs.Meaning.{meaning}
use Rattle.regex_hir.specs.declared.hir.Hir.{Hir}
use Rattle.regex_syntax.specs.Grammar.{read, Names, group_count}
use Rattle.regex_syntax.specs.Brackets.{Nested}
use Rattle.regex.specs.Failures.{IsPattern}
use Rattle.regex_syntax.specs.declared.Config.{Config}
use Rattle.regex_syntax.specs.declared.error.ErrorKind.{ErrorKind}
use Rattle.regex_syntax.specs.declared.error.ErrorKind.TheVariants.{OutOfMemory}
use Rattle.se_outside.specs.Patterns.{IsPatternText}

at_odds : (r : Option (Nested Re × Names)) (limit : ℕ) (Q : Nested Re × Names → Type 0) → ((x : Nested Re × Names) → Q x → x.0.depth ≤ limit) → IfSome r (λ x. limit < x.0.depth) → IsSomeAnd r Q → ⊥
at_odds None limit Q within p q = q
at_odds (Some x) limit Q within p q = absurd (omega (arith, p, within x q))

refused : (config : Config) (text : List ℕ) (kind : ErrorKind) → Refuses config text kind → kind ≢ OutOfMemory → IsPattern config text → ⊥
unfolding Refuses Reads
refused config text kind (inl e) other pattern = other e
refused config text kind (inr (inl none)) other (hir, names, reads) = rw none at reads
refused config text kind (inr (inr (nest, deep))) other (hir, names, reads) = at_odds (read config (chars text)) config.nest_limit (λ x. (x.0.depth ≤ config.nest_limit) × SameCaptures (meaning hir) x.0.value × (names ≡ x.1) × (group_count (meaning hir) ≤ length names)) (λ x q. q.0) deep reads

pub no-pattern : (text : List ℕ) (kind : ErrorKind) → Refuses default_config text kind → kind ≢ OutOfMemory → IsPatternText text → ⊥
unfolding IsPatternText
no-pattern text kind refuses other pattern = refused default_config text kind refuses other pattern

-- what the grammar reads in a text with the default options makes it a pattern
pub a-pattern : (text source : List ℕ) (config : Config) (hir : Hir) (names : Names) → source ≡ text → config ≡ default_config → Reads config source hir names → IsPatternText text
unfolding IsPatternText
a-pattern text source config hir names is by reads = rw (← is, ← by) (hir, names, reads)
