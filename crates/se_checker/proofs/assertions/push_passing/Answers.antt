use Rattle.std.proofs.Common.{◌++◌, List, ℕ, sym, ap, ◌∙◌, append-nil}
use Rattle.se_checker.proofs.FoundRules.{nothing_passes}
use Rattle.se_checker.proofs.assertions.push_passing.Goals as goal

pub returns-in-Nothing : goal.returns-in-Nothing
returns-in-Nothing c =
    let found = c.args.found.now.items in
    sym (ap (λ (ns : List ℕ). found ++ ns) (nothing_passes c.args.bits c.args.sources.now.values c.args.targets.now.values c.args.rules.now c.in-Nothing.is) ∙ append-nil found)
