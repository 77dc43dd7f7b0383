use Rattle.std.proofs.Common.{◌≡◌, take}
use Rattle.std.specs.List.{filter}
use Rattle.pol_symbols.specs.PolicySymbols.{name_in, record_values}
use Rattle.regex.specs.Strings.{regex_pattern, matcher_pattern}
use Rattle.named_values.specs.Found.{has_pattern, of_name}
use Rattle.named_values.proofs.found.found_values.Given as goal

pub record Found (same so_far : Type 0) : Type 0 where
  pub same_pattern : same
  pub found_so_far : so_far

abbrev pub invariant-loop-number : goal.invariant-loop-number
invariant-loop-number l = Found (matcher_pattern l.matcher ≡ regex_pattern l.pattern) (l.values.items ≡ filter (λ value. of_name (has_pattern (regex_pattern l.pattern)) (name_in l.symbols l.table value)) (take l.number (record_values l.symbols l.table)))
