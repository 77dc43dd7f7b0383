use Rattle.std.proofs.Common.{◌≡◌, take}
use Rattle.bool_state.specs.BooleanStates.{values_on}
use Rattle.bool_state.proofs.state.BoolState.new.Given as goal

abbrev pub invariant-loop-i : goal.invariant-loop-i
invariant-loop-i l = l.values.items ≡ values_on l.given (take l.i l.symbols.booleans.records)
