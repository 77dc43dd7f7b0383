use Rattle.std.proofs.Common.{◌≡◌, length}
use Rattle.pol_symbols.specs.PolicySymbols.{permissions_of}
use Rattle.text_rows.specs.TextLines.{fields_in}
use Rattle.se_checker.specs.Inner.AskedBits.{bits_named}
use Rattle.se_checker.proofs.asked.bits_named.Given as goal

abbrev pub invariant-loop-name : goal.invariant-loop-name
invariant-loop-name l = bits_named (permissions_of l.symbols l.class.value) l.bits (fields_in l.rest) ≡ bits_named (permissions_of l.symbols l.class.value) 0 (fields_in l.names)

abbrev pub decreases-loop-name : goal.decreases-loop-name
decreases-loop-name l = length (fields_in l.rest)
