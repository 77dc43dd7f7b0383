use Rattle.std.proofs.Common.{◌≡◌, map, take}
use Rattle.pol_symbols.specs.PolicySymbols.{permissions_of}
use Rattle.rule_tests.specs.PartTests.{bits_named}
use Rattle.rule_tests.proofs.class_bits.all_named.Given as goal

abbrev pub invariant-loop-name : goal.invariant-loop-name
invariant-loop-name l = l.named.items ≡ map (λ name. bits_named name.now (permissions_of l.symbols l.class.value)) (take l.name-index l.names)
