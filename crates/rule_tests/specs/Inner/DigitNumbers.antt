-- Numbers as they are read, digit by digit. It serves the code alone.
use Rattle.std.specs.Prelude.{ℕ, ◌+◌, ◌*◌, nat_le, ◌&&◌, Option, Some, None, List, [], ◌∷◌, unwrap_or, if◌then◌else◌}
use Rattle.std.specs.List.{list_all}
use Rattle.rule_tests.specs.AskedNumbers.{digit, is_digit}

-- the value of digits behind a number
unfoldable pub value_behind : ℕ → List ℕ → ℕ
value_behind value [] = value
value_behind value (byte ∷ bytes) = value_behind (value * 16 + unwrap_or (digit byte) 0) bytes

-- the number of 16 bits that digits behind a number stand for
abbrev pub number_behind : ℕ → List ℕ → Option ℕ
number_behind value digits = if list_all is_digit digits && nat_le (value_behind value digits) 65535 then Some (value_behind value digits) else None
