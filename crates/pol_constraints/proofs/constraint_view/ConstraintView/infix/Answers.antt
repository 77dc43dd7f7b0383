use Rattle.std.proofs.Common.{◌≡◌, ◌++◌, List, Option, ap, subst, ◌∙◌, arith}
use Rattle.std.specs.Prelude.{reverse}
use Rattle.std.specs.Option.{option_to_list}
use Rattle.std.proofs.lemmas.List.{length-reverse}
use Rattle.pol_constraints.specs.declared.constraint_rec.ConstraintItem.{ConstraintItem}
use Rattle.pol_expr.specs.Infix.{Operand}
use Rattle.pol_expr.proofs.Stacks.{one_left}
use Rattle.pol_constraints.proofs.ConstraintTexts.{one_constraint_text, Written, Written-start, Written-fits, Written-next, Written-end}
use Rattle.pol_constraints.proofs.constraint_view.ConstraintView.infix.Goals as goal

pub loop-item-init : goal.loop-item-init
loop-item-init g c =
    let named = g.N.Names.named c.args.names.now in
    let all : c.into_iter-item-iterator.result ≡ c.args.self.now.items = cc in
    rw (c.new-operands.ensures.items, all) (Written-start named c.args.self.now.items c.items-item-items.ensures.expression)

pub apply-requires : goal.apply-requires
apply-requires g c =
    let fits = Written-fits (g.N.Names.named c.args.names.now) c.args.self.now.items c.loop-item.item-iterator c.in-Some.item c.next.new.self (reverse c.loop-item.operands.items) c.in-Some.ensures.steps c.loop-item.invariant in
    omega (arith, fits, length-reverse c.loop-item.operands.items)

pub loop-item-preserved : goal.loop-item-preserved
loop-item-preserved g c =
    Written-next (g.N.Names.named c.args.names.now) c.args.self.now.items c.loop-item.item-iterator c.in-Some.item c.next.new.self (reverse c.loop-item.operands.items) (reverse c.apply.new.operands.items) c.in-Some.ensures.steps c.in_ok-apply.ensures c.loop-item.invariant

pub returns : goal.returns
returns g c =
    let named = g.N.Names.named c.args.names.now in
    let whole = c.args.self.now.items in
    let done = subst (λ (left : List ConstraintItem). Written named whole left (reverse c.loop-item.operands.items)) c.in-None.ensures.steps.0 c.loop-item.invariant in
    let left = c.pop.ensures.items ∙ ap (λ (o : Option Operand). c.pop.new.self.items ++ option_to_list o) c.unwrap.ensures in
    one_constraint_text named whole c.into_text.result.items c.items-item-items.ensures.expression λ t e.
    c.into_text.ensures ∙ ap (λ (x : Operand). x.text) (one_left c.loop-item.operands.items c.pop.new.self.items c.unwrap.result _ left (Written-end named whole (reverse c.loop-item.operands.items) done t e))
