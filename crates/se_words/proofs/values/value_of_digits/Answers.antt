use Rattle.std.proofs.Common.{sym, ◌∙◌}
use Rattle.se_words.proofs.Numbers.{parsed}
use Rattle.se_words.proofs.values.value_of_digits.Goals as goal

pub unreachable-requires : goal.unreachable-requires
unreachable-requires c = let unequal = sym c.in-Err.is ∙ parsed c.args.digits.now c.parse.result c.parse.ensures.value.0 c.requires in cc
