use Rattle.se_walks.proofs.GivenStates.{given_then}
use Rattle.se_walks.proofs.stated_rules.given_states.Goals as goal

pub loop-state-preserved : goal.loop-state-preserved
loop-state-preserved c =
    given_then c.args.symbols.now c.args.states.now c.loop-state.state-index _ _ _ c.loop-state-test.true c.in_ok-push_given.ensures c.loop-state.invariant
