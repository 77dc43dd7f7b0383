use Rattle.std.proofs.Common.{◌≡◌, ◌≤◌, drop}
use Rattle.rule_tests.specs.Inner.DigitNumbers.{number_behind}
use Rattle.rule_tests.proofs.text_numbers.number_of_all.Given as goal

pub record Reading (small rest : Type 0) : Type 0 where
  pub is_small : small
  pub is_rest : rest

abbrev pub invariant-loop-byte : goal.invariant-loop-byte
invariant-loop-byte l = Reading (l.value ≤ 65535) (number_behind l.value (drop l.byte-index l.digits) ≡ number_behind 0 l.digits)
