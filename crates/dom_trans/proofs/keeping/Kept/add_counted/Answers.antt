use Rattle.std.proofs.Common.{sym, ◌∙◌}
use Rattle.pol_read.specs.StoredRules.{stored}
use Rattle.dom_trans.proofs.Keeps.{kept_uncounted}
use Rattle.dom_trans.proofs.keeping.Kept.add_counted.Goals as goal

pub returns-else-counts : goal.returns-else-counts
returns-else-counts c = kept_uncounted c.args.rules.now c.args.wanted.now c.args.number (stored c.args.rule.now) c.args.self.now c.requires.rule (sym c.counts.ensures ∙ c.if-counts.false) c.requires.kept
