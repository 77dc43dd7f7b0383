use Rattle.std.proofs.Common.{sym, ap, ◌∙◌}
use Rattle.numbered_rules.specs.NumberedRules.{has}
use Rattle.numbered_rules.proofs.SetFacts.{set_at}
use Rattle.numbered_rules.proofs.sets.has_number.Goals as goal

pub returns : goal.returns
returns c =
    c.set_has.ensures ∙ ap (λ ns. has ns c.args.number) (sym (set_at c.args.pool.now c.args.set c.get.result.now c.get.ensures))
