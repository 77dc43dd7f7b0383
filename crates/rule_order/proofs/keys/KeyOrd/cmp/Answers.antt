use Rattle.std.proofs.Common.{◌∙◌}
use Rattle.rule_order.proofs.NameNumbers.{key_cmp}
use Rattle.rule_order.proofs.keys.KeyOrd.cmp.Goals as goal

pub returns : goal.returns
returns c =
    rw (c.cmp.ensures, c.names.ensures.exact, c.names-2.ensures.exact, c.cmp-2.ensures) at c.then.ensures
    ∙ key_cmp c.args.self.now c.args.other.now c.names.ensures.words c.names-2.ensures.words
