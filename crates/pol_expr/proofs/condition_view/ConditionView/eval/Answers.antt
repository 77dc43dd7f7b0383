use Rattle.std.proofs.Common.{◌≡◌, ◌<◌, ◌++◌, Option, Bool, length, ap, ◌∙◌, arith}
use Rattle.std.specs.Prelude.{not, reverse}
use Rattle.std.proofs.lemmas.List.{length-reverse}
use Rattle.pol_expr.specs.ConditionMeaning.{condition_symbols, truth_of, value_of, is_in}
use Rattle.pol_expr.proofs.Stacks.{Reading-start, Reading-fits, Reading-next, Reading-one, Reading-end, one_left}
use Rattle.pol_expr.proofs.ConditionTrees.{length-symbols, symbols_postfix, value_meaning}
use Rattle.std.specs.Option.{option_to_list}
use Rattle.pol_expr.proofs.condition_view.ConditionView.eval.Goals as goal

pub loop-i-init : goal.loop-i-init
loop-i-init c = rw c.new-values.ensures (Reading-start (is_in c.args.on.now) not truth_of 10 _ (symbols_postfix _ c.len-i-end.ensures.expression))

pub apply-requires-clause-operands : goal.apply-requires-clause-operands
apply-requires-clause-operands c =
    let fits = Reading-fits (is_in c.args.on.now) not truth_of 10 (condition_symbols c.args.self.now.value.items) c.loop-i.i (reverse c.loop-i.values.items) c.symbol.result c.symbol.ensures c.loop-i.invariant in
    omega (arith, fits.0, length-reverse c.loop-i.values.items)

pub apply-requires-clause-room : goal.apply-requires-clause-room
apply-requires-clause-room c =
    let fits = Reading-fits (is_in c.args.on.now) not truth_of 10 (condition_symbols c.args.self.now.value.items) c.loop-i.i (reverse c.loop-i.values.items) c.symbol.result c.symbol.ensures c.loop-i.invariant in
    omega (arith, fits.1, length-reverse c.loop-i.values.items)

pub loop-i-preserved : goal.loop-i-preserved
loop-i-preserved c = Reading-next (is_in c.args.on.now) not truth_of 10 (condition_symbols c.args.self.now.value.items) c.loop-i.i (reverse c.loop-i.values.items) (reverse c.apply.new.values.items) c.symbol.result c.symbol.ensures c.apply.ensures c.loop-i.invariant

pub unwrap-requires : goal.unwrap-requires
unwrap-requires c =
    let all : length (condition_symbols c.args.self.now.value.items) ≡ length c.args.self.now.value.items = length-symbols c.args.self.now.value.items in
    let one = Reading-one (is_in c.args.on.now) not truth_of 10 (condition_symbols c.args.self.now.value.items) c.loop-i.i (reverse c.loop-i.values.items) (omega arith) c.loop-i.invariant in
    let some : 0 < length c.loop-i.values.items = omega (arith, length-reverse c.loop-i.values.items) in
    c.pop.ensures.variant.1 some

pub returns : goal.returns
returns c = λ t e.
    let all : length (condition_symbols c.args.self.now.value.items) ≡ length c.args.self.now.value.items = length-symbols c.args.self.now.value.items in
    let end = Reading-end (is_in c.args.on.now) not truth_of 10 (condition_symbols c.args.self.now.value.items) c.loop-i.i (reverse c.loop-i.values.items) (omega arith) c.loop-i.invariant (value_of (is_in c.args.on.now)) (value_meaning (is_in c.args.on.now)) t e in
    one_left c.loop-i.values.items c.pop.new.self.items c.unwrap.result _ (c.pop.ensures.items ∙ ap (λ (o : Option Bool). c.pop.new.self.items ++ option_to_list o) c.unwrap.ensures) end
