use Rattle.se_outside.proofs.Refusals.{a-pattern, no-pattern}
use Rattle.se_outside.proofs.regex_patterns.read_pattern.Goals as goal

pub returns-in-Ok : goal.returns-in-Ok
returns-in-Ok c = record {
  built = record { source = c.in-Ok.ensures.source; config = c.in-Ok.ensures.config; read = c.in-Ok.ensures.read };
  pattern = a-pattern _ _ _ _ _ c.in-Ok.ensures.source c.in-Ok.ensures.config c.in-Ok.ensures.read;
  syntax = λ h. absurd (cc h);
}

pub returns-in-Err-Syntax : goal.returns-in-Err-Syntax
returns-in-Err-Syntax c = record {
  built = tt;
  pattern = tt;
  syntax = λ _ pattern. no-pattern _ _ (c.in-Err-Syntax.ensures.by_grammar _ c.in-Err-Syntax.field-0-is) (rw c.in-Err-Syntax.field-0-is at c.in-Err-Syntax.ensures.kind) pattern;
}
