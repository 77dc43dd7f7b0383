use Rattle.std.proofs.Common.{◌≡◌, ◌+◌, ◌-◌, ◌≤◌, length, take}
use Rattle.std.specs.List.{filter, range_with_len}
use Rattle.rule_tests.specs.Inner.AskedVectors.{standing_at}
use Rattle.rule_tests.proofs.asked_vectors.gather.Given as goal

abbrev pub invariant-loop-number : goal.invariant-loop-number
invariant-loop-number g l = record {
  long : length l.numbers ≡ 128;
  room : l.count + l.from ≤ l.number;
  gathered : take l.count l.numbers ≡ filter (standing_at (g.M.Marks.is_marked l.marks) l.table) (range_with_len l.from (l.number - l.from));
}
