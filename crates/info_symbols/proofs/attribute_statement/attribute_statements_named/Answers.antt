use Rattle.std.proofs.Common.{List, ℕ, Some, ap, ◌∙◌}
use Rattle.info_symbols.proofs.Attributes.{statement_named}
use Rattle.info_symbols.proofs.attribute_statement.attribute_statements_named.Goals as goal

pub returns-in_ok-line-in-Some : goal.returns-in_ok-line-in-Some
returns-in_ok-line-in-Some c =
    ap (λ (lines : List (List ℕ)). Some lines) c.in_ok-line-in-Some.ensures ∙ statement_named c.args.policy.now c.args.name.now c.in-Some.number c.in-Some.ensures.found
