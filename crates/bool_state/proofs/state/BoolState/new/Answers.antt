use Rattle.std.proofs.Common.{◌≡◌, ℕ, List, sym, ap, ◌∙◌, arith}
use Rattle.std.specs.FinSet as set
use Rattle.pol_bitmap.specs.Nodes.{bits_of}
use Rattle.bool_state.specs.BooleanStates.{values_on}
use Rattle.bool_state.proofs.BooleanSets.{same_values}
use Rattle.bool_state.proofs.TrueBooleans.{values_none, values_next, values_end}
use Rattle.bool_state.proofs.state.BoolState.new.Goals as goal

pub loop-i-init : goal.loop-i-init
loop-i-init c = c.new-values.ensures.items ∙ sym (values_none c.args.given.now)

pub loop-i-preserved : goal.loop-i-preserved
loop-i-preserved c =
    c.in_ok-push_on.ensures
    ∙ values_next c.args.given.now c.args.symbols.now.booleans.records c.loop-i.i c.boolean_view.result c.loop-i.values.items c.boolean_view.ensures c.loop-i.invariant

pub returns : goal.returns
returns c =
    let all : c.loop-i.values.items ≡ values_on c.args.given.now c.args.symbols.now.booleans.records = values_end c.args.given.now c.args.symbols.now.booleans.records c.loop-i.i c.loop-i.values.items (omega arith) c.loop-i.invariant in
    same_values (bits_of c.in_ok-on.on) c.loop-i.values.items c.in_ok-on.ensures.bits ∙ ap (λ (values : List ℕ). set.from_list values) all
