-- The exit codes of the program.
use Rattle.std.specs.Prelude.{ℕ}
use Rattle.se_status.specs.declared.status.Status.{Status}
use Rattle.se_status.specs.declared.status.Status.TheVariants.{Done, Usage, ReadFault, TooLarge, BadPolicy, BadMap, BadList, CannotHold, UnknownName, BadNumber, BadPattern, WriteFault, Memory}

-- the number that the program ends with: 1 where the input is refused, 2 where the words are, 3 where the outside failed
abbrev pub code_of : Status → ℕ
code_of Done = 0
code_of (Usage word) = 2
code_of (ReadFault slot) = 3
code_of (TooLarge slot) = 1
code_of (BadPolicy fault) = 1
code_of (BadMap fault) = 1
code_of (BadList fault) = 1
code_of (CannotHold version unheld) = 1
code_of (UnknownName word) = 1
code_of (BadNumber word) = 1
code_of (BadPattern word kind) = 1
code_of WriteFault = 3
code_of Memory = 5
