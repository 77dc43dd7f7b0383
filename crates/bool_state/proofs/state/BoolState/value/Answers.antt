use Rattle.std.proofs.Common.{ap, subst, ◌∙◌, ℕ, Bool}
use Rattle.std.specs.FinSet as set
use Rattle.pol_bitmap.specs.Nodes.{bits_of}
use Rattle.pol_expr.specs.ConditionMeaning.{value_of}
use Rattle.bool_state.specs.BooleanStates.{Booleans, HasValue, condition_value}
use Rattle.bool_state.proofs.BooleanSets.{in_nodes}
use Rattle.bool_state.proofs.ConditionValues.{evaluated, has_value, one_value}
use Rattle.bool_state.proofs.state.BoolState.value.Goals as goal

pub returns-clause-tree : goal.returns-clause-tree
returns-clause-tree c =
    let items = c.args.condition.now.value.items in
    let nodes = c.self.inside.on in
    subst (λ (on : Booleans). HasValue on items c.eval.result) c.self.view_is
    (evaluated (set.from_list (bits_of nodes)) items c.len.ensures.expression c.eval.result (λ t e. c.eval.ensures t e ∙ ap (λ (test : ℕ → Bool). value_of test t) (in_nodes nodes)))

pub returns-clause-same : goal.returns-clause-same
returns-clause-same c =
    let items = c.args.condition.now.value.items in
    one_value c.args.self.now items c.eval.result (condition_value c.args.self.now items) (returns-clause-tree c) (has_value c.args.self.now items c.len.ensures.expression)
