use Rattle.std.proofs.Common.{◌≡◌, length, take, ap, ◌∙◌, arith}
use Rattle.std.specs.List.{filter}
use Rattle.std.proofs.lemmas.List.{take_all}
use Rattle.info_symbols.specs.TypeListings.{number_in}
use Rattle.info_symbols.proofs.Listed.{kept_within}
use Rattle.info_symbols.proofs.type_sets.numbers_in.Goals as goal

pub returns-clause-within : goal.returns-clause-within
returns-clause-within c =
    let numbers = c.args.numbers.now in
    let whole : take c.loop-number.number-index numbers ≡ numbers = take_all c.loop-number.number-index numbers (omega (arith, c.loop-number-test.false)) in
    kept_within (number_in c.args.policy.now c.args.set) (length c.args.policy.now.symbols.types.records) numbers c.loop-number.kept.items c.requires
    (c.loop-number.invariant ∙ ap (filter (number_in c.args.policy.now c.args.set)) whole)
