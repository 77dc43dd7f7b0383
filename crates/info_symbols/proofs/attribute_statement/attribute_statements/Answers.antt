use Rattle.std.proofs.Common.{◌≡◌, List, ℕ, IfOk, sym, subst}
use Rattle.std.specs.List.{All}
use Rattle.info_symbols.specs.AttributeStatement.{IsAttribute}
use Rattle.info_symbols.proofs.Attributes.{listed_attributes, statements_listed}
use Rattle.info_symbols.proofs.attribute_statement.attribute_statements.Goals as goal

pub lines_of-requires : goal.lines_of-requires
lines_of-requires c = subst (All (IsAttribute c.args.policy.now)) (sym c.in_ok-numbers.ensures.numbers) (listed_attributes c.args.policy.now)

pub returns : goal.returns
returns c =
    subst (λ (listing : List (List ℕ)). IfOk c.lines_of.result (λ lines. lines ≡ listing)) (statements_listed c.args.policy.now c.in_ok-numbers.numbers.items c.in_ok-numbers.ensures.numbers) c.lines_of.ensures
