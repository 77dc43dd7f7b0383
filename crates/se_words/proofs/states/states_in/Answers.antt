use Rattle.se_words.proofs.Endings.{states-more}
use Rattle.se_words.proofs.states.states_in.Goals as goal

pub loop-element-preserved : goal.loop-element-preserved
loop-element-preserved c =
    states-more (λ element. element.now) c.args.value.word c.deref-element-items.result.now _ _ _ _ _ c.loop-element-test.true c.state_in.ensures c.in_ok-push_state.ensures c.loop-element.invariant
