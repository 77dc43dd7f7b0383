use Rattle.std.proofs.Common.{rules, of_calls}
use Rattle.std.specs.Prelude.{nat_lt}
use Rattle.std.proofs.lemmas.Fn.{always_returns_same}
use Rattle.pol_bitmap.proofs.SetMaking.{rises_answer}
use Rattle.pol_bitmap.proofs.set_build.rises.Goals as goal

pub returns : goal.returns
returns c = rises_answer c.args.bits.now c.is_sorted_by.result (c.is_sorted_by.ensures.cases (λ x y. nat_lt x y) (always_returns_same _ _ _ (λ a r f k. search (rules, of_calls))))
