use Rattle.std.proofs.Common.{◌≡◌, ◌<◌, ◌++◌, Option, length, ap, ◌∙◌, arith}
use Rattle.std.specs.Prelude.{reverse, vec_len}
use Rattle.std.specs.Option.{option_to_list}
use Rattle.std.proofs.lemmas.List.{length-reverse}
use Rattle.pol_expr.specs.Infix.{Operand, is_binary, infix_of, leaf_operand, negated_operand, joined_operands}
use Rattle.pol_expr.specs.ConditionMeaning.{condition_symbols, condition_words}
use Rattle.pol_expr.proofs.Stacks.{Reading-start, Reading-fits, Reading-next, Reading-one, Reading-end, one_left, text_meaning}
use Rattle.pol_expr.proofs.ConditionTrees.{length-symbols, one_condition_text, symbols_postfix}
use Rattle.pol_expr.proofs.condition_view.ConditionView.infix.Goals as goal

pub loop-i-init : goal.loop-i-init
loop-i-init g c =
    let words = condition_words (g.N.Names.named c.args.names.now) in
    rw c.new-operands.ensures.items (Reading-start (leaf_operand words) (negated_operand words) (joined_operands words) 10 _ (symbols_postfix _ c.len-i-end.ensures.expression))

pub apply-requires : goal.apply-requires
apply-requires g c =
    let words = condition_words (g.N.Names.named c.args.names.now) in
    let fits = Reading-fits (leaf_operand words) (negated_operand words) (joined_operands words) 10 (condition_symbols c.args.self.now.value.items) c.loop-i.i (reverse c.loop-i.operands.items) c.symbol.result c.symbol.ensures c.loop-i.invariant in
    omega (arith, fits.0, length-reverse c.loop-i.operands.items)

pub loop-i-preserved : goal.loop-i-preserved
loop-i-preserved g c =
    let words = condition_words (g.N.Names.named c.args.names.now) in
    Reading-next (leaf_operand words) (negated_operand words) (joined_operands words) 10 (condition_symbols c.args.self.now.value.items) c.loop-i.i (reverse c.loop-i.operands.items) (reverse c.apply.new.operands.items) c.symbol.result c.symbol.ensures c.in_ok-apply.ensures c.loop-i.invariant

pub unwrap-requires : goal.unwrap-requires
unwrap-requires g c =
    let words = condition_words (g.N.Names.named c.args.names.now) in
    let all : length (condition_symbols c.args.self.now.value.items) ≡ length c.args.self.now.value.items = length-symbols c.args.self.now.value.items in
    let one = Reading-one (leaf_operand words) (negated_operand words) (joined_operands words) 10 (condition_symbols c.args.self.now.value.items) c.loop-i.i (reverse c.loop-i.operands.items) (omega arith) c.loop-i.invariant in
    let some : 0 < vec_len c.loop-i.operands = omega (arith, length-reverse c.loop-i.operands.items) in
    c.pop.ensures.variant.1 some

pub returns : goal.returns
returns g c =
    let words = condition_words (g.N.Names.named c.args.names.now) in
    let all : length (condition_symbols c.args.self.now.value.items) ≡ length c.args.self.now.value.items = length-symbols c.args.self.now.value.items in
    let end = Reading-end (leaf_operand words) (negated_operand words) (joined_operands words) 10 (condition_symbols c.args.self.now.value.items) c.loop-i.i (reverse c.loop-i.operands.items) (omega arith) c.loop-i.invariant (λ t. record { text = infix_of words t; is_binary = is_binary t }) (text_meaning words) in
    let left = c.pop.ensures.items ∙ ap (λ (o : Option Operand). c.pop.new.self.items ++ option_to_list o) c.unwrap.ensures in
    one_condition_text (g.N.Names.named c.args.names.now) c.args.self.now.value.items c.into_text.result.items c.len-i-end.ensures.expression λ t e.
    c.into_text.ensures ∙ ap (λ (x : Operand). x.text) (one_left c.loop-i.operands.items c.pop.new.self.items c.unwrap.result _ left (end t e))
