use Rattle.se_checker.proofs.FoundRules.{one_class}
use Rattle.se_checker.proofs.assertions.passing_rules.Goals as goal

pub loop-place-preserved : goal.loop-place-preserved
loop-place-preserved c =
    one_class c.symbols-symbols.result.now c.args.policy.now.symbols c.args.asked.now c.loop-place.place c.view.result c.asked_bits-bits.result c.args.sources.now.values c.args.targets.now.values c.args.rules.now c.of_class.result.now
    c.loop-place.found.items c.push_passing.new.found.items c.symbols-symbols.ensures c.view.ensures c.asked_bits-bits.ensures c.of_class.ensures c.in_ok-push_passing.ensures c.loop-place.invariant
