use Rattle.std.proofs.Common.{◌≤◌, ℕ, false, List, ◌∷◌, ap, ◌∙◌, rules}
use Rattle.std.specs.Prelude.{reverse}
use Rattle.pol_expr.specs.Infix.{Operand}
use Rattle.pol_expr.proofs.Stacks.{reverse_push}
use Rattle.pol_constraints.proofs.ConstraintTexts.{leaf_symbol}
use Rattle.pol_constraints.proofs.constraint_infix.apply.Goals as goal

pub returns-in_ok-push-in_default : goal.returns-in_ok-push-in_default
returns-in_ok-push-in_default g c =
    let item = c.args.item.now in
    let leaf : 4 ≤ item.kind = search rules in
    let before = c.args.operands.now.items in
    let operand = c.from_text.ensures ∙ ap (λ (text : List ℕ). record { text = text; is_binary = false }) c.in_ok-leaf_text-in_default.ensures in
    rw (leaf_symbol (g.N.Names.named c.args.names.now) item leaf) (ap reverse c.in_ok-push-in_default.ensures.items ∙ reverse_push before c.from_text.result ∙ ap (λ (x : Operand). x ∷ reverse before) operand)
