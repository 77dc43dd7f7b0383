-- What is known of the patterns that `regex` builds: a count, and no text.
use Rattle.std.specs.Prelude.{None}
use Rattle.se_outside.specs.Patterns.{PatternsState}
use Rattle.se_outside.specs.declared.regex_patterns.RegexPatterns.{RegexPatterns}

-- no text, and how often a pattern was refused
abbrev pub regex_patterns : RegexPatterns → PatternsState
regex_patterns p = record { asked = None; refusals = p.refusals }
