use Rattle.std.proofs.Common.{◌≡◌, drop, map}
use Rattle.se_status.specs.LeastWord.{least, least_number}
use Rattle.se_words.specs.States.{state_view}
use Rattle.se_walks.specs.StatedRules.{unknown_state}
use Rattle.se_walks.proofs.stated_rules.unknown_among.Given as goal

abbrev pub invariant-loop-state : goal.invariant-loop-state
invariant-loop-state l = least l.found (least_number (unknown_state l.symbols) (map state_view (drop l.state-index l.states))) ≡ least_number (unknown_state l.symbols) (map state_view l.states)
