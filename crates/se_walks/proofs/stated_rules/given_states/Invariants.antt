use Rattle.std.proofs.Common.{◌≡◌, map, take}
use Rattle.se_words.specs.States.{state_view}
use Rattle.se_walks.specs.StatedRules.{given_states}
use Rattle.se_walks.proofs.stated_rules.given_states.Given as goal

abbrev pub invariant-loop-state : goal.invariant-loop-state
invariant-loop-state l = l.given.items ≡ given_states l.symbols (map state_view (take l.state-index l.states))
