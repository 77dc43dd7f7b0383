use Rattle.std.proofs.Common.{◌≤◌, ◌-◌, ℕ, length, take}
use Rattle.std.specs.Io.KnownBytes.{Appends}
use Rattle.se_items.proofs.writing.write_all.Given as goal

pub record Written (at len : ℕ) (before now : ℕ) (so_far : Type 0) : Type 0 where
  pub within : at ≤ len
  pub later : before ≤ now
  pub gained : so_far

abbrev pub invariant-loop-at : goal.invariant-loop-at
invariant-loop-at g l = Written l.at (length l.text) (g.S.Sink.state l.initial.sink).faults (g.S.Sink.state l.sink).faults (Appends (g.S.Sink.state l.initial.sink).written (g.S.Sink.state l.sink).written (take l.at l.text))

abbrev pub decreases-loop-at : goal.decreases-loop-at
decreases-loop-at g l = length l.text - l.at
