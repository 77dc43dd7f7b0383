use Rattle.std.proofs.Common.{◌≡◌, take, map}
use Rattle.std.specs.List.{filter_map}
use Rattle.se_words.specs.States.{state_in, state_view}
use Rattle.se_words.proofs.states.states_in.Given as goal

abbrev pub invariant-loop-element : goal.invariant-loop-element
invariant-loop-element l = map state_view l.states.items ≡ filter_map (state_in l.value.word) (map (λ element. element.now) (take l.element-index l.element-items))
