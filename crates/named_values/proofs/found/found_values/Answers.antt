use Rattle.std.proofs.Common.{◌∙◌, ℕ}
use Rattle.pol_symbols.specs.PolicySymbols.{name_in}
use Rattle.regex.specs.Strings.{regex_pattern, matcher_pattern}
use Rattle.named_values.specs.Found.{has_pattern, of_name}
use Rattle.named_values.proofs.Records.{record_more, records_end}
use Rattle.named_values.proofs.found.found_values.Goals as goal

pub loop-number-preserved : goal.loop-number-preserved
loop-number-preserved c = record {
  same_pattern = c.is_found-found.ensures.same ∙ c.loop-number.invariant.same_pattern;
  found_so_far = record_more c.args.symbols.now c.args.table (matcher_pattern c.loop-number.matcher) (regex_pattern c.args.pattern.now) c.loop-number.number c.record_value-value.result c.is_found-found.result _ c.loop-number.values.items c.push_if.new.values.items
      c.loop-number.invariant.same_pattern c.loop-number.invariant.found_so_far c.record_value-value.ensures c.is_found-found.ensures.found c.name_of.ensures c.in_ok-push_if.ensures;
}

pub returns : goal.returns
returns c = c.loop-number.invariant.found_so_far ∙ records_end c.args.symbols.now c.args.table (λ (value : ℕ). of_name (has_pattern (regex_pattern c.args.pattern.now)) (name_in c.args.symbols.now c.args.table value)) c.loop-number.number c.len-number-end.result c.len-number-end.ensures c.loop-number-test.false
