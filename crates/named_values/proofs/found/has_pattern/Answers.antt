use Rattle.std.proofs.Common.{◌∙◌, sym}
use Rattle.named_values.proofs.Patterns.{ascii_text}
use Rattle.named_values.proofs.found.has_pattern.Goals as goal

pub unreachable-requires : goal.unreachable-requires
unreachable-requires c = c.in_default.ensures.cases.0 (ascii_text c.args.name.now (sym c.is_ascii.ensures ∙ c.if-not-is_ascii.false))
